use Rattle.slot_views.proofs.Endings.{ends_the_first}
use Rattle.slot_views.proofs.laws.first_entry_ends.Goals as goal

pub returns : goal.returns
returns g c apart = ends_the_first g.met.K.Ord.total apart
