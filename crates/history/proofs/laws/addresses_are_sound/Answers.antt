use Rattle.history.proofs.Addresses.{addresses_are_sound}
use Rattle.history.proofs.laws.addresses_are_sound.Goals as goal

pub returns : goal.returns
returns c = addresses_are_sound
