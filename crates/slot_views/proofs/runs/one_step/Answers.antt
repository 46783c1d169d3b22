use Rattle.slot_views.proofs.RunSteps.{one_step_of}
use Rattle.slot_views.proofs.runs.one_step.Goals as goal

pub returns : goal.returns
returns g c rules law = one_step_of rules law
