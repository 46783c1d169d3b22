use Rattle.std.proofs.Common.{◌≡◌, take, map}
use Rattle.gate_outside.specs.Link.{route_of}
use Rattle.gate_outside.proofs.attached.routes_like.Given as goal

abbrev pub invariant-loop-route : goal.invariant-loop-route
invariant-loop-route l = map route_of l.copy.items ≡ map route_of (take l.route-index l.route-items)
