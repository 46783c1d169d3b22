-- What went out and what is left make up the whole.
use Rattle.std.specs.List.{AllByRecursion}
use Rattle.std.proofs.Common.{◌≡◌, ◌++◌, drop, map}
use Rattle.n2k_id.specs.Frame.{IsFrame, bus_frame}
use Rattle.bus_identity.specs.Answers.{frame_of}
use Rattle.bus_identity.proofs.sending.append_pieces.Given as goal

abbrev pub invariant-loop-piece : goal.invariant-loop-piece
invariant-loop-piece l = record {
  frames : map bus_frame l.out.items ++ map (frame_of l.id) (drop l.piece-index l.pieces) ≡ map bus_frame l.initial.out.items ++ map (frame_of l.id) l.pieces;
  valid : AllByRecursion IsFrame l.out.items;
}
