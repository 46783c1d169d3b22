use Rattle.gate_model.proofs.StandsTimes.{opening_stands}
use Rattle.gate_model.proofs.stands.opening_stands.Goals as goal

pub returns : goal.returns
returns c = opening_stands
