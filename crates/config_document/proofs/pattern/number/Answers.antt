-- At most seven digits write a small number.
use Rattle.std.proofs.Common.{arith}
use Rattle.unit_fraction.specs.Digits.{number}
use Rattle.unit_fraction.proofs.Number.{number_fits}
use Rattle.config_document.proofs.Numbers.{small}
use Rattle.config_document.proofs.pattern.number.Goals as goal

pub overflow_mul-number : goal.overflow_mul-number
overflow_mul-number c =
    omega (arith, number_fits c.loop-digit.number c.args.digits.now c.loop-digit.digit-index (number c.args.digits.now) c.loop-digit-test.true c.loop-digit.invariant, small c.args.digits.now c.requires.digits c.requires.few)

pub overflow_add-number : goal.overflow_add-number
overflow_add-number c =
    omega (arith, c.from.ensures, number_fits c.loop-digit.number c.args.digits.now c.loop-digit.digit-index (number c.args.digits.now) c.loop-digit-test.true c.loop-digit.invariant, small c.args.digits.now c.requires.digits c.requires.few)
