-- So many digits write a number below that power of ten.
use Rattle.std.proofs.Common.{length, arith}
use Rattle.std.proofs.Math.Nat.{one-le-pow}
use Rattle.sentence_profile.proofs.DigitNumbers.{below_most}
use Rattle.sentence_rows.proofs.digits.digits_in.Goals as goal

pub returns-then-may_lack-clause-small : goal.returns-then-may_lack-clause-small
returns-then-may_lack-clause-small c = omega (arith, one-le-pow c.args.most 10 (omega arith))

pub returns-then-are_digits-clause-small : goal.returns-then-are_digits-clause-small
returns-then-are_digits-clause-small c =
    below_most c.number_of.result (length c.args.text.now) c.args.most c.number_of.ensures.small (omega arith)
