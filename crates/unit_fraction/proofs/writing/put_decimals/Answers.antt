use Rattle.unit_fraction.proofs.Text.{decimals_step}
use Rattle.unit_fraction.proofs.writing.put_decimals.Goals as goal

pub loop-preserved : goal.loop-preserved
loop-preserved c =
    rw c.put.ensures (decimals_step c.args.n c.args.places c.args.text.now c.loop.counter c.loop.rest c.loop.text c.loop-test.true c.loop.invariant)
