-- Where a key stands among the entries of a map, which are in the order of their keys.
use Rattle.std.specs.Prelude.{◌≡◌, ℕ, ◌<◌, ◌≤◌, List, length, take, drop, slice_index_or, Result, Ok, Err}
use Rattle.std.specs.List.{AllByRecursion}
use Rattle.std.specs.declared.cmp.Ordering.{Ordering}
use Rattle.std.specs.declared.cmp.Ordering.TheVariants.{Less, Equal, Greater}
use Rattle.slot_views.specs.declared.place.Place.{Place}
use Rattle.slot_views.specs.Slots.{Entry, SlotMap}

module _ {K : Type 0} (cmp : K → K → Ordering) where
  module _ (k : K) (es : List (K × Entry)) where
    -- the entries before place i have lesser keys
    abbrev pub Below : ℕ → Type 0
    Below i = AllByRecursion (λ e. cmp k e.0 ≡ Greater) (take i es)

    -- those from place i on have greater ones
    abbrev pub Above : ℕ → Type 0
    Above i = AllByRecursion (λ e. cmp k e.0 ≡ Less) (drop i es)

    -- the key's entry is at place i
    pub record IsHeldAt (i : ℕ) : Type 0 where
      pub in_range : i < length es
      pub below : Below i
      pub here : (d : K × Entry) → cmp k (slice_index_or es i d).0 ≡ Equal

    -- the key has no entry, and one would go to place i
    pub record IsMissedAt (i : ℕ) : Type 0 where
      pub in_range : i ≤ length es
      pub below : Below i
      pub above : Above i

    abbrev pub StandsAt : Result ℕ ℕ → Type 0
    StandsAt (Ok i) = IsHeldAt i
    StandsAt (Err i) = IsMissedAt i

  -- that is where the key stands
  abbrev pub IsPlace : SlotMap K → Place K → Type 0
  IsPlace s place = StandsAt place.key s.entries place.at
