use Rattle.history.proofs.Refusals.{fast_breaks}
use Rattle.history.proofs.laws.fast_refusals_break.Goals as goal

pub returns : goal.returns
returns c = fast_breaks
