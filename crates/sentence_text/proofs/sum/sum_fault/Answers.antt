use Rattle.std.proofs.Common.{sym, arith}
use Rattle.sentence_text.proofs.Sums.{sum_again}
use Rattle.sentence_text.proofs.sum.sum_fault.Goals as goal

pub returns : goal.returns
returns c = sym (sum_again c.args.sum c.args.high c.args.low (omega arith) (omega arith) (omega arith))
