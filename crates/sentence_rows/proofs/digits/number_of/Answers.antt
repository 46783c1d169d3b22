-- At most twelve digits write a small number.
use Rattle.std.proofs.Common.{◌≡◌, arith}
use Rattle.unit_fraction.specs.Digits.{number}
use Rattle.unit_fraction.proofs.Number.{number_fits}
use Rattle.sentence_profile.proofs.DigitNumbers.{ended, few_small, small}
use Rattle.sentence_rows.proofs.digits.number_of.Goals as goal

pub overflow_mul-number : goal.overflow_mul-number
overflow_mul-number c =
    omega (arith, number_fits c.loop-digit.number c.args.digits.now c.loop-digit.digit-index (number c.args.digits.now) c.loop-digit-test.true c.loop-digit.invariant, few_small c.args.digits.now c.requires.digits c.requires.few)

pub overflow_add-number : goal.overflow_add-number
overflow_add-number c =
    omega (arith, c.from.ensures, number_fits c.loop-digit.number c.args.digits.now c.loop-digit.digit-index (number c.args.digits.now) c.loop-digit-test.true c.loop-digit.invariant, few_small c.args.digits.now c.requires.digits c.requires.few)

pub returns-clause-small : goal.returns-clause-small
returns-clause-small c =
    let is : c.loop-digit.number ≡ number c.args.digits.now = ended c.loop-digit.number (number c.args.digits.now) c.args.digits.now c.loop-digit.digit-index c.loop-digit-test.false c.loop-digit.invariant in
    omega (arith, is, small c.args.digits.now c.requires.digits)
