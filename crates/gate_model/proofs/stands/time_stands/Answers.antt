use Rattle.gate_model.proofs.StandsTimes.{time_stands}
use Rattle.gate_model.proofs.stands.time_stands.Goals as goal

pub returns : goal.returns
returns c = time_stands
