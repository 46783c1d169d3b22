use Rattle.config_values.proofs.Failing.{never}
use Rattle.config_values.proofs.Texts.{port_to}
use Rattle.config_values.proofs.endpoint.is_port.Goals as goal

pub returns-in-Err : goal.returns-in-Err
returns-in-Err c = never (λ port. c.in-Err.ensures.cases.0 (port_to c.args.text.now port).utf8)
