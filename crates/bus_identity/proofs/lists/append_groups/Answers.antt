use Rattle.bus_identity.proofs.PayloadLemmas.{next_has_room}
use Rattle.bus_identity.proofs.lists.append_groups.Goals as goal

pub append_group-requires-clause-room : goal.append_group-requires-clause-room
append_group-requires-clause-room c = next_has_room _ _ _ _ _ c.loop-pgn-test.true c.loop-pgn.invariant c.requires.room
