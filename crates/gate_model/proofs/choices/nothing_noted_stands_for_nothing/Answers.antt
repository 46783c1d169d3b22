use Rattle.gate_model.proofs.ChoiceMessages.{opening_stands_chosen}
use Rattle.gate_model.proofs.choices.nothing_noted_stands_for_nothing.Goals as goal

pub returns : goal.returns
returns c = opening_stands_chosen
