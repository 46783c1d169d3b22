use Rattle.gate_model.proofs.ChoiceMessages.{messages_stand_chosen}
use Rattle.gate_model.proofs.choices.messages_are_noted.Goals as goal

pub returns : goal.returns
returns c = messages_stand_chosen
