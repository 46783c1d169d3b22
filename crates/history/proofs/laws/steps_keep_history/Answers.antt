use Rattle.history.proofs.EntrySteps.{steps_keep_history}
use Rattle.history.proofs.laws.steps_keep_history.Goals as goal

pub returns : goal.returns
returns c = steps_keep_history
