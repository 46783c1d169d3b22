-- What is written and what is left make up the whole.
use Rattle.std.proofs.Common.{◌≡◌, ◌++◌, drop}
use Rattle.std.specs.List.{flat_map}
use Rattle.pgn_profile.specs.Piece.{bytes_of}
use Rattle.pgn_profile.proofs.piece.append_all.Given as goal

abbrev pub invariant-loop-piece : goal.invariant-loop-piece
invariant-loop-piece l = l.out.items ++ flat_map bytes_of (drop l.piece-index l.pieces) ≡ l.initial.out.items ++ flat_map bytes_of l.pieces
