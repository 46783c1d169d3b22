use Rattle.gate_model.proofs.StandsReached.{all_reached_fits}
use Rattle.gate_model.proofs.stands.calls_can_be_made_at_what_was_reached.Goals as goal

pub returns : goal.returns
returns c = all_reached_fits
