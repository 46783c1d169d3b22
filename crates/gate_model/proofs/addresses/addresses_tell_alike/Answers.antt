use Rattle.gate_model.proofs.AddressTells.{standing_tells_alike, standing_fits}
use Rattle.gate_model.proofs.addresses.addresses_tell_alike.Goals as goal

pub returns-clause-tells : goal.returns-clause-tells
returns-clause-tells c = standing_tells_alike

pub returns-clause-fits : goal.returns-clause-fits
returns-clause-fits c = standing_fits
