-- What becomes of the emits once their datagram was written in place.
use Rattle.std.specs.Prelude.{[], ◌∷◌}
use Rattle.std.specs.Borrow.{Fml, Lends, MutBor, RattleType}
use Rattle.gate_events.specs.Emit.{net}
use Rattle.gate_outbox.specs.declared.datagram.Datagram.{Datagram}
use Rattle.gate_outbox.specs.contracts.datagram.Datagram.{the_row as datagram_row}
use Rattle.gate_outbox.specs.contracts.emits.Emits.{the_row}
use Rattle.gate_outbox.specs.Output.{Emitted, with_posted}

-- the datagram stands behind the emits behind s, with what was last written through r
abbrev pub lends_datagram : RattleType → MutBor Emitted → MutBor Datagram → Fml
lends_datagram ROOM s r = Lends (the_row ROOM) datagram_row s r (λ d. with_posted s.now (net d.group d.packet.items ∷ []))
