use Rattle.gate_config.specs.Keys.{ais, alerts, bus, further, gateway, hbt, heading, heartbeat, identity, nav, net, plain, preset, report, rmc, route, row, serve}
use Rattle.gate_config.specs.Unknown.{first_unknown, tables}
use Rattle.gate_config.proofs.unknown.first_unknown.Goals as goal

pub returns : goal.returns
unfolding first_unknown tables gateway preset row net bus route identity rmc ais further report plain serve heading nav alerts heartbeat hbt
returns c =
    rw (c.in_ok-least-6.ensures, c.in_ok-least-5.ensures, c.in_ok-least-4.ensures, c.in_ok-least-3.ensures, c.in_ok-least-2.ensures, c.in_ok-least.ensures) at c.under.ensures
