use Rattle.gate_model.proofs.SaidTold.{messages_are_told}
use Rattle.gate_model.proofs.said.messages_are_told.Goals as goal

pub returns : goal.returns
returns c = messages_are_told
