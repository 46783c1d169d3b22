use Rattle.std.proofs.Common.{arith}
use Rattle.bridge.specs.Kept.{output_of}
use Rattle.serving.proofs.Doing.{partly_all, partly_more, partly_none, partly_stopped}
use Rattle.serving.proofs.Items.{next_due, no_due}
use Rattle.serving.proofs.handing.hand_on.Goals as goal

pub loop-place-init : goal.loop-place-init
loop-place-init g c = partly_none _ _

pub loop-place-preserved : goal.loop-place-preserved
loop-place-preserved g c =
    partly_more _ _ _ _ _ _ _ c.loop-place.invariant (next_due c.args.moment (output_of c.args.bridge.now) c.loop-place.place) c.in-Ok.ensures

pub returns-in-Err : goal.returns-in-Err
returns-in-Err g c =
    partly_stopped _ _ _ _ _ _ _ c.loop-place.invariant (next_due c.args.moment (output_of c.args.bridge.now) c.loop-place.place) c.in-Err.ensures

pub returns : goal.returns
returns g c = partly_all _ _ _ _ c.loop-place.invariant (no_due c.args.moment (output_of c.args.bridge.now) c.loop-place.place (omega arith))
