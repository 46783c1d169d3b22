use Rattle.pgn_profile.proofs.Pieces.{next_has_room}
use Rattle.pgn_profile.proofs.piece.append_all.Goals as goal

pub append-requires-clause-room : goal.append-requires-clause-room
append-requires-clause-room c = next_has_room _ _ _ _ _ _ c.loop-piece-test.true c.loop-piece.invariant c.requires.room
