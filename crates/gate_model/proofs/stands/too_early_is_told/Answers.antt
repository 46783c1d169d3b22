use Rattle.gate_model.proofs.StandsEntries.{too_early_is_told}
use Rattle.gate_model.proofs.stands.too_early_is_told.Goals as goal

pub returns : goal.returns
returns c = too_early_is_told
