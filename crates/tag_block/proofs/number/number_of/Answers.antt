-- At most four digits write a small number.
use Rattle.std.proofs.Common.{arith}
use Rattle.tag_block.specs.Tag.{number}
use Rattle.tag_block.proofs.Numbers.{fits, small}
use Rattle.tag_block.proofs.number.number_of.Goals as goal

pub overflow_mul-number : goal.overflow_mul-number
overflow_mul-number c =
    omega (arith, fits c.loop-digit.number c.args.digits.now c.loop-digit.digit-index (number c.args.digits.now) c.loop-digit-test.true c.loop-digit.invariant, small c.args.digits.now c.requires.digits c.requires.few)

pub overflow_add-number : goal.overflow_add-number
overflow_add-number c =
    omega (arith, c.from.ensures, fits c.loop-digit.number c.args.digits.now c.loop-digit.digit-index (number c.args.digits.now) c.loop-digit-test.true c.loop-digit.invariant, small c.args.digits.now c.requires.digits c.requires.few)
