use Rattle.heartbeats.proofs.Promises.{hbt_is_due}
use Rattle.heartbeats.proofs.laws.hbt_is_due.Goals as goal

pub returns : goal.returns
returns c = hbt_is_due
