use Rattle.bus_identity.proofs.FrameLemmas.{next_fits}
use Rattle.bus_identity.proofs.sending.append_pieces.Goals as goal

pub append_frame-requires-clause-room : goal.append_frame-requires-clause-room
append_frame-requires-clause-room c = next_fits _ _ _ _ _ _ c.loop-piece-test.true c.loop-piece.invariant.frames c.requires.room
