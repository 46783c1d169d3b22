use Rattle.navigation.proofs.LawProofs.{one_device}
use Rattle.navigation.proofs.laws.values_are_of_one_device.Goals as goal

pub returns : goal.returns
returns c = one_device
