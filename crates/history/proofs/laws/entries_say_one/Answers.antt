use Rattle.history.proofs.EntrySteps.{entries_say_one}
use Rattle.history.proofs.laws.entries_say_one.Goals as goal

pub returns : goal.returns
returns c = entries_say_one
