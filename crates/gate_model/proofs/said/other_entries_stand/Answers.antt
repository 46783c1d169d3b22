use Rattle.gate_model.proofs.SaidClaims.{claims_stand_said, other_entries_stand_said}
use Rattle.gate_model.proofs.said.other_entries_stand.Goals as goal

pub returns-clause-claims : goal.returns-clause-claims
returns-clause-claims c = claims_stand_said

pub returns-clause-others : goal.returns-clause-others
returns-clause-others c = other_entries_stand_said
