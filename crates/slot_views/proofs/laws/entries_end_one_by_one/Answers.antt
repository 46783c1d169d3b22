use Rattle.slot_views.proofs.Endings.{all_stay, one_fewer}
use Rattle.slot_views.specs.Slots.{with_entries}
use Rattle.std.proofs.Common.{ap}
use Rattle.slot_views.proofs.laws.entries_end_one_by_one.Goals as goal

pub returns : goal.returns
returns g c = record { all = λ s p none. ap (with_entries s) (all_stay p s.entries none); one = λ s p. ap (with_entries s) (one_fewer p s.entries) }
