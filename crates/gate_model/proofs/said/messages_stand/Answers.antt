use Rattle.gate_model.proofs.SaidMessages.{messages_stand_said}
use Rattle.gate_model.proofs.said.messages_stand.Goals as goal

pub returns : goal.returns
returns c = messages_stand_said
