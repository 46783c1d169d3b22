use Rattle.claim_table.proofs.StepLemmas.{stays_sound}
use Rattle.claim_table.proofs.laws.tables_stay_sound.Goals as goal

pub returns : goal.returns
returns c = stays_sound
