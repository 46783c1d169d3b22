use Rattle.gate_model.proofs.ChoiceClaims.{claims_stand_chosen, other_entries_stand_chosen}
use Rattle.gate_model.proofs.choices.other_entries_note_nothing.Goals as goal

pub returns-clause-claims : goal.returns-clause-claims
returns-clause-claims c = claims_stand_chosen

pub returns-clause-others : goal.returns-clause-others
returns-clause-others c = other_entries_stand_chosen
