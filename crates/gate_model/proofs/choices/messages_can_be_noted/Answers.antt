use Rattle.gate_model.proofs.ChoiceMessages.{messages_fit_chosen}
use Rattle.gate_model.proofs.choices.messages_can_be_noted.Goals as goal

pub returns : goal.returns
returns c = messages_fit_chosen
