use Rattle.further_bridge.proofs.StepLemmas.{commands_leave_further}
use Rattle.further_bridge.proofs.laws.commands_leave_further_quantities.Goals as goal

pub returns : goal.returns
returns c = commands_leave_further
