use Rattle.std.proofs.Common.{◌≡◌, true}
use Rattle.slot_views.proofs.Traces.{joined}
use Rattle.slot_views.proofs.laws.keys_stand_apart.Goals as goal

pub returns : goal.returns
returns g c f after fits is_open step agrees limit h some all noted =
    joined g.met.K.Ord.total f after step (λ x. fits x ≡ true) is_open agrees limit some h all noted
