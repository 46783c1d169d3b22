use Rattle.std.proofs.Common.{◌≡◌, take, length}
use Rattle.live_outside.specs.Destinations.{AreOfRoutes}
use Rattle.live_outside.proofs.destinations.Destinations.of.Given as goal

abbrev pub invariant-loop-route : goal.invariant-loop-route
invariant-loop-route l = record {
  items : l.route-items ≡ l.routes.list.items;
  length : length l.list.items ≡ l.route-index;
  list : AreOfRoutes (take l.route-index l.route-items) l.list.items;
}
