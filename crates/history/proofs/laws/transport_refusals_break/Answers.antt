use Rattle.history.proofs.Refusals.{transport_breaks}
use Rattle.history.proofs.laws.transport_refusals_break.Goals as goal

pub returns : goal.returns
returns c = transport_breaks
