use Rattle.std.proofs.Common.{arith}
use Rattle.unit_fraction.specs.Digits.{number_after}
use Rattle.unit_fraction.proofs.Number.{number_fits}
use Rattle.capture_text.proofs.time.number.Goals as goal

pub overflow_mul-number : goal.overflow_mul-number
overflow_mul-number c = omega (arith, number_fits c.loop-digit.number c.args.digits.now c.loop-digit.digit-index (number_after c.args.before c.args.digits.now) c.loop-digit-test.true c.loop-digit.invariant)

pub overflow_add-number : goal.overflow_add-number
overflow_add-number c = omega (arith, number_fits c.loop-digit.number c.args.digits.now c.loop-digit.digit-index (number_after c.args.before c.args.digits.now) c.loop-digit-test.true c.loop-digit.invariant)
