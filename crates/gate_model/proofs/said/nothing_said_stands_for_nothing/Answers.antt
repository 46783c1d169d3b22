use Rattle.gate_model.proofs.SaidMessages.{opening_stands_said}
use Rattle.gate_model.proofs.said.nothing_said_stands_for_nothing.Goals as goal

pub returns : goal.returns
returns c = opening_stands_said
