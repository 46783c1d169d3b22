use Rattle.fast_packet.proofs.SplitRuns.{split_runs}
use Rattle.fast_packet.proofs.laws.split_is_a_run.Goals as goal

pub returns : goal.returns
returns c sequence p low some fits = split_runs sequence p low some fits
