use Rattle.std.proofs.Common.{rules}
use Rattle.pgn_profile.proofs.piece.Piece.append.Goals as goal

pub returns-in-Signed : goal.returns-in-Signed
returns-in-Signed c = search rules
