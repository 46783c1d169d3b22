use Rattle.gate_config.specs.Keys.{bus, ignored, net, optional, route}
use Rattle.gate_config.specs.Unknown.{bus_noted, links_noted, net_noted}
use Rattle.gate_config.proofs.unknown.in_links.Goals as goal

pub returns : goal.returns
unfolding links_noted bus_noted net_noted net optional bus ignored route
returns c =
    let routes = rw c.items-routes.ensures at c.in_items.ensures in
    rw (c.in_ok-least-2.ensures, c.in_ok-least.ensures) at routes
