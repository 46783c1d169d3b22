use Rattle.std.proofs.Common.{◌-◌, ◌*◌, arith}
use Rattle.pgn_profile.proofs.Pieces.{largest_shifted}
use Rattle.pgn_profile.proofs.piece.most_signed.Goals as goal

pub returns : goal.returns
returns c = largest_shifted (8 * c.args.width - 1) (64 - 8 * c.args.width) (omega arith)
