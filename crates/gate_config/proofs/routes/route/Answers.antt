use Rattle.std.proofs.Common.{sym}
use Rattle.gate_config.proofs.Beside.{route_beside}
use Rattle.gate_config.proofs.routes.route.Goals as goal

pub returns-clause-valid : goal.returns-clause-valid
returns-clause-valid c =
    route_beside c.args.earlier.now (record { group = c.in_ok-said.said; address = c.in_ok-address.field-0.0 }) (sym c.if-have_group.ensures) c.in_ok-address.ensures.valid
