-- What becomes of the slots once a view has ended.
use Rattle.std.specs.Prelude.{◌≡◌, Option, Bool, ⊤}
use Rattle.std.specs.Borrow.{Fml, RattleType, MutBor, follows_so}
use Rattle.std.specs.declared.cmp.Ordering.{Ordering}
use mathlib.Core.Option.{none}
use Rattle.slot_views.specs.contracts.slots.Slots.{the_row}
use Rattle.slot_views.specs.Slots.{SlotMap}

-- what a clause has as K.Ord
abbrev pub OrdMembers : Type 0 → Type 0
OrdMembers K = record { partial_cmp : K → K → Option Ordering; eq : K → K → Bool; cmp : K → K → Ordering }

-- the slots' type, as the logic holds it
abbrev pub slots_row : (K Size Piece : RattleType) → OrdMembers K.Denot → RattleType
slots_row K Size Piece g = the_row K Size Piece (record { cmp = g.cmp }) (record { eq = g.eq }) (record { partial_cmp = g.partial_cmp })

-- the slots behind s end as this map
abbrev pub ends_as : (K Size Piece : RattleType) → OrdMembers K.Denot → MutBor (SlotMap K.Denot) → SlotMap K.Denot → Fml
ends_as K Size Piece g s m = follows_so (slots_row K Size Piece g) (slots_row K Size Piece g) s.ghost_name none (λ _ _. ⊤) (λ n. n ≡ m)
