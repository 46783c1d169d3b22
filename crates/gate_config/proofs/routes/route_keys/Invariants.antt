use Rattle.std.proofs.Common.{◌≡◌, ◌+◌, ◌≤◌, [], length, map, drop}
use Rattle.config_document.specs.Places.{members_seen}
use Rattle.config_values.specs.Configs.{AreRoutes}
use Rattle.network_routes.specs.Routes.{most_routes}
use Rattle.gate_config.specs.Keys.{route}
use Rattle.gate_config.specs.Reading.{items_from}
use Rattle.gate_config.proofs.routes.route_keys.Given as goal

abbrev pub invariant-loop-value : goal.invariant-loop-value
invariant-loop-value l =
    (items_from route tt (length l.routes.items + 1) l.routes.items (map members_seen (drop l.value-index l.values)) ≡ items_from route tt 1 [] (map members_seen l.values))
    × (length l.routes.items ≡ l.value-index) × (length l.values ≤ most_routes) × AreRoutes l.routes.items
