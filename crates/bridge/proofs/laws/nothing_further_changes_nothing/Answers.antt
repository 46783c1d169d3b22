use Rattle.bridge.proofs.Steps.{nothing_further}
use Rattle.bridge.proofs.laws.nothing_further_changes_nothing.Goals as goal

pub returns : goal.returns
returns c = nothing_further
