-- What is recorded in items and what was made in them, where some of them are all made.
use Rattle.std.proofs.Common.{◌≡◌, ℕ, List, [], ◌∷◌, ◌++◌, refl, ap}
use Rattle.gate_events.specs.Emit.{Emit, Emitted}
use Rattle.history.specs.Emits.{at}
use Rattle.gateway_commands.specs.Recorded.{made_in, recorded_in}
use Rattle.gateway_commands.specs.Turns.{Item, all_made}

pub recorded_behind : (emits : List Emitted) (items : List Item) → recorded_in (all_made emits ++ items) ≡ recorded_in items
recorded_behind [] items = refl
recorded_behind (e ∷ emits) items = recorded_behind emits items

pub made_behind : (emits : List Emitted) (items : List Item) → made_in (all_made emits ++ items) ≡ emits ++ made_in items
made_behind [] items = refl
made_behind (e ∷ emits) items = ap (λ (made : List Emitted). e ∷ made) (made_behind emits items)

-- nothing is emitted at a moment only where nothing is emitted
pub nothing_at : (m : ℕ) (emits : List Emit) → at m emits ≡ [] → emits ≡ []
nothing_at m [] none = refl
nothing_at m (e ∷ emits) none = absurd (cc)
