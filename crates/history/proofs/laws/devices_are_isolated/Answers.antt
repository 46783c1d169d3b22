use Rattle.history.proofs.Isolation.{isolation}
use Rattle.history.proofs.laws.devices_are_isolated.Goals as goal

pub returns : goal.returns
returns c = isolation
