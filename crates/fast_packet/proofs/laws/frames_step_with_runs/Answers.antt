use Rattle.fast_packet.specs.contracts.key.FastKeyOrd as key
use Rattle.fast_packet.proofs.Keys.{steps_with_runs}
use Rattle.fast_packet.proofs.laws.frames_step_with_runs.Goals as goal

pub returns : goal.returns
returns c = steps_with_runs key.TheImpl.Laws.total-law
