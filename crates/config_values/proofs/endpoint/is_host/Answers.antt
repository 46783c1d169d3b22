use Rattle.config_values.proofs.Hosts.{tells_host}
use Rattle.config_values.proofs.endpoint.is_host.Goals as goal

pub returns : goal.returns
returns c = tells_host c.args.text.now c.parse_ascii.result c.is_ok.result c.parse_ascii.ensures c.is_ok.ensures.value
