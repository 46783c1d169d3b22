use Rattle.std.proofs.Common.{sym}
use Rattle.config_values.proofs.Hosts.{never_endpoint, no_host, with_host}
use Rattle.config_values.proofs.endpoint.is_endpoint.Goals as goal

pub returns-in-None : goal.returns-in-None
returns-in-None c = never_endpoint c.args.text.now (sym c.in-None.ensures)

pub returns-then-is_host : goal.returns-then-is_host
returns-then-is_host c =
    with_host c.args.text.now c.in-Some.colon c.is_host.result c.is_port.result (sym c.in-Some.ensures) c.is_host.ensures c.if-is_host.true c.is_port.ensures

pub returns-else-is_host : goal.returns-else-is_host
returns-else-is_host c =
    no_host c.args.text.now c.in-Some.colon c.is_host.result (sym c.in-Some.ensures) c.is_host.ensures c.if-is_host.false
