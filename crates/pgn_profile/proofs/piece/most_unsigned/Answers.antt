use Rattle.std.proofs.Common.{◌-◌, ◌*◌, arith}
use Rattle.pgn_profile.proofs.Pieces.{largest_shifted}
use Rattle.pgn_profile.proofs.piece.most_unsigned.Goals as goal

pub returns : goal.returns
returns c = largest_shifted (8 * c.args.width) (63 - 8 * c.args.width) (omega arith)
