-- What lies behind the map.
use Rattle.std.specs.Prelude.{nat_le, min, if◌then◌else◌, [], ◌∷◌, ◌≡◌, ℕ, ◌+◌, ◌-◌, ◌*◌, ◌<◌, ◌≤◌, ◌^◌, ◌≢◌, Bool, true, false, None, IsSomeAnd, List, map, length, take, drop, slice_index_or, slice_set}
use Rattle.std.specs.Global.{Vec}
use Rattle.std.specs.Vec.{vec_len, vec_capacity}
use Rattle.std.specs.List.{AllByRecursion}
use Rattle.std.specs.declared.cmp.Ordering.{Ordering}
use Rattle.std.specs.declared.cmp.Ordering.TheVariants.{Equal}
use Rattle.std.specs.Ordering.{is_gt}
use Rattle.slot_views.specs.declared.slot.Slot.{Slot}
use Rattle.slot_views.specs.declared.shelf.Shelf.{Shelf}
use Rattle.slot_views.specs.declared.opening.Opening.{Opening}
use Rattle.slot_views.specs.declared.opening.Opening.TheVariants.{Full as OpeningFull, Held as OpeningHeld, Complete as OpeningComplete}
use Rattle.slot_views.specs.declared.growth.Growth.{Growth}
use Rattle.slot_views.specs.declared.growth.Growth.TheVariants.{Absent as GrowthAbsent, NotNext as GrowthNotNext, Held as GrowthHeld, Complete as GrowthComplete}
use Rattle.slot_views.specs.Slots.{Entry, SlotMap, IsOrdered, entry_at, is_held, is_full, is_complete}
use Rattle.slot_views.specs.Places.{Below, Above}

module _ {K : Type 0} where
  -- what a slot shows
  abbrev pub entry_of : Slot K → K × Entry
  entry_of s = (s.key, record { bytes = s.bytes.items; next = s.next; need = s.need; last = s.last; gap = s.gap; mark = s.mark })

  abbrev pub entries_of : List (Slot K) → List (K × Entry)
  entries_of xs = map entry_of xs

  -- the slot's buffer has room for all pieces that are still to come, and one is
  pub record HasRoom (cap piece : ℕ) (s : Slot K) : Type 0 where
    pub reserved : cap ≤ vec_capacity s.bytes
    pub started : 1 ≤ s.next
    pub awaits : s.next < s.need
    pub fits : vec_len s.bytes + (s.need - s.next) * piece ≤ cap

  -- the slot at place i shows another entry now
  abbrev pub Extends : List (Slot K) → List (Slot K) → ℕ → Entry → Type 0
  Extends old new i e = (s : Slot K) × (new ≡ slice_set old i s) × ((d : Slot K) → entry_of s ≡ ((slice_index_or old i d).key, e))

  -- the last moment at which none of these slots has expired, and that of all time where there is none
  unfoldable pub quiet_of : List (Slot K) → ℕ
  quiet_of [] = 2 ^ 64 - 1
  quiet_of (s ∷ ss) = min (s.last + s.gap) (quiet_of ss)

  module _ {cap piece : ℕ} where
    -- the map that a shelf stands for
    abbrev pub seen : Shelf K cap piece → SlotMap K
    seen s = record { limit = s.limit; entries = entries_of s.slots.items }

    -- a shelf that stands for a map
    pub record IsSound (cmp : K → K → Ordering) (s : Shelf K cap piece) : Type 0 where
      pub limit_fits : s.limit < 2 ^ 16
      pub cap_fits : cap < 2 ^ 16
      pub buffers : vec_len s.slots + vec_len s.spare ≡ s.limit
      pub slots_reserved : s.limit ≤ vec_capacity s.slots
      pub spare_reserved : s.limit ≤ vec_capacity s.spare
      pub rooms : AllByRecursion (HasRoom cap piece) s.slots.items
      pub spare_rooms : AllByRecursion (λ b. cap ≤ vec_capacity b) s.spare.items
      pub ordered : IsOrdered cmp (entries_of s.slots.items)
      pub quiet : AllByRecursion (λ x. s.quiet_until ≤ x.last + x.gap) s.slots.items

    -- up to when no slot expires, once a moment was asked about at which none had: all slots are looked at where that wasn't known
    abbrev pub quiet_after : ℕ → Shelf K cap piece → ℕ
    quiet_after moment s = if nat_le moment s.quiet_until then s.quiet_until else quiet_of s.slots.items

    -- the last spare buffer has the bytes
    pub record HasFinished (s : Shelf K cap piece) (bytes : List ℕ) : Type 0 where
      pub some : 0 < vec_len s.spare
      pub last : (d : Vec ℕ) → (slice_index_or s.spare.items (vec_len s.spare - 1) d).items ≡ bytes

  module _ (cmp : K → K → Ordering) (k : K) (xs : List (Slot K)) where
    -- the entries from place i on have keys that aren't lesser
    abbrev pub NotBelow : ℕ → Type 0
    NotBelow i = AllByRecursion (λ e. is_gt (cmp k e.0) ≡ false) (drop i (entries_of xs))

    -- the slot at place i has the key
    pub record IsAt (i : ℕ) : Type 0 where
      pub in_range : i < length xs
      pub below : Below cmp k (entries_of xs) i
      pub here : (d : Slot K) → cmp k (slice_index_or xs i d).key ≡ Equal

    -- the key would go at place i
    pub record IsGap (i : ℕ) : Type 0 where
      pub in_range : i ≤ length xs
      pub below : Below cmp k (entries_of xs) i
      pub above : Above cmp k (entries_of xs) i

  -- the slot at place i is the first that shows an entry which passes the test
  pub record IsFirst (p : K × Entry → Bool) (xs : List (Slot K)) (i : ℕ) : Type 0 where
    pub in_range : i < length xs
    pub before : AllByRecursion (λ s. p (entry_of s) ≡ false) (take i xs)
    pub here : (d : Slot K) → p (entry_of (slice_index_or xs i d)) ≡ true

  -- no slot does
  abbrev pub NoneShows : (K × Entry → Bool) → List (Slot K) → Type 0
  NoneShows p xs = AllByRecursion (λ s. p (entry_of s) ≡ false) xs

module _ {K : Type 0} (cmp : K → K → Ordering) (s : SlotMap K) (k : K) {cap piece : ℕ} (after : Shelf K cap piece) where
  -- an opening, with the finished bytes in the last spare buffer
  abbrev pub OpensAs : Entry → Opening → Type 0
  OpensAs e OpeningFull = is_full cmp s k ≡ true
  OpensAs e (OpeningHeld replaced) = (is_full cmp s k ≡ false) × (is_complete e ≡ false) × (replaced ≡ is_held cmp s k)
  OpensAs e (OpeningComplete replaced) = (is_full cmp s k ≡ false) × (is_complete e ≡ true) × (replaced ≡ is_held cmp s k) × HasFinished after e.bytes

  -- a growth, likewise
  abbrev pub GrowsAs : ℕ → (Entry → Entry) → Growth → Type 0
  GrowsAs next more GrowthAbsent = entry_at cmp s k ≡ None
  GrowsAs next more (GrowthNotNext n) = IsSomeAnd (entry_at cmp s k) (λ e. (n ≡ e.next) × (e.next ≢ next))
  GrowsAs next more GrowthHeld = IsSomeAnd (entry_at cmp s k) (λ e. (e.next ≡ next) × (is_complete (more e) ≡ false))
  GrowsAs next more (GrowthComplete mark) = IsSomeAnd (entry_at cmp s k)
      (λ e. (e.next ≡ next) × (is_complete (more e) ≡ true) × HasFinished after (more e).bytes × (mark ≡ e.mark))
