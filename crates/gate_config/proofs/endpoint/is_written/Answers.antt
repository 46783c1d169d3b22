use Rattle.gate_config.proofs.EndpointTexts.{told}
use Rattle.gate_config.proofs.endpoint.is_written.Goals as goal

pub returns-clause-said : goal.returns-clause-said
returns-clause-said c = told c.args.text.now c.is_endpoint.result c.is_endpoint.ensures
