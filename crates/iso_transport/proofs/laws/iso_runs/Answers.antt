use Rattle.std.proofs.Common.{true, false}
use Rattle.slot_views.proofs.RunSteps.{one_step_of}
use Rattle.slot_views.proofs.RunSuffixes.{one_suffix_of}
use Rattle.iso_transport.specs.IsoRuns.{iso_rules}
use Rattle.iso_transport.proofs.Lawful.{lawful}
use Rattle.iso_transport.proofs.laws.iso_runs.Goals as goal

pub returns : goal.returns
returns c = record {
  addressed_step = one_step_of (iso_rules true) (lawful true);
  addressed_suffix = one_suffix_of (iso_rules true) (lawful true);
  broadcast_step = one_step_of (iso_rules false) (lawful false);
  broadcast_suffix = one_suffix_of (iso_rules false) (lawful false);
}
