use Rattle.iso_transport.proofs.Joining.{keys_total}
use Rattle.iso_transport.proofs.Keys.{steps_with_runs}
use Rattle.iso_transport.proofs.laws.frames_step_with_runs.Goals as goal

pub returns : goal.returns
returns c = steps_with_runs keys_total
