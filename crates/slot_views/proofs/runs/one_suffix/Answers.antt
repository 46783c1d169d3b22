use Rattle.slot_views.proofs.RunSuffixes.{one_suffix_of}
use Rattle.slot_views.proofs.runs.one_suffix.Goals as goal

pub returns : goal.returns
returns g c rules law = one_suffix_of rules law
