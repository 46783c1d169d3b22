use Rattle.history.proofs.Isolation.{isolation_of_two}
use Rattle.history.proofs.laws.devices_are_isolated_in_two.Goals as goal

pub returns : goal.returns
returns c = isolation_of_two
