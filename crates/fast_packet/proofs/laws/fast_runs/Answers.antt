use Rattle.slot_views.proofs.RunSteps.{one_step_of}
use Rattle.slot_views.proofs.RunSuffixes.{one_suffix_of}
use Rattle.fast_packet.specs.FastRuns.{fast_rules}
use Rattle.fast_packet.proofs.Lawful.{lawful}
use Rattle.fast_packet.proofs.laws.fast_runs.Goals as goal

pub returns : goal.returns
returns c = record { step = one_step_of fast_rules lawful; suffix = one_suffix_of fast_rules lawful }
