use Rattle.std.proofs.Common.{◌≡◌, drop}
use Rattle.live_outside.specs.Destinations.{GoesTo}
use Rattle.std.specs.declared.net.socket_addr.SocketAddrV4.{SocketAddrV4}
use Rattle.live_outside.proofs.destinations.Destinations.address.Given as goal

abbrev pub invariant-loop-to : goal.invariant-loop-to
invariant-loop-to l = record {
  items : l.to-items ≡ l.self.list.items;
  behind : (a : SocketAddrV4) → GoesTo l.group (drop l.to-index l.to-items) l.self.other a → GoesTo l.group l.to-items l.self.other a;
}
