-- Slots over a list of pieces, each of a key: what all pieces make of the map, and what each key's own pieces make of its entry.
-- Every list of pieces has the newest first.
use Rattle.std.specs.Prelude.{◌≡◌, ℕ, ◌≤◌, false, Bool, ◌&&◌, not, ◌==◌, nat_lt, if◌then◌else◌, List, [], ◌∷◌, length, Option, Some, None}
use Rattle.std.specs.List.{filter, list_any}
use Rattle.std.specs.declared.cmp.Ordering.{Ordering}
use Rattle.std.specs.BTreeMap.{is_at}
use Rattle.slot_views.specs.Slots.{Entry, SlotMap, IsOrdered, grown, remaining, entry_at, is_complete, is_full, is_expired, has_expired}

-- how the pieces of one kind fill entries
pub record Filling (X : Type 0) : Type 0 where
  -- when the piece came, and whether there was room for an entry that it opens
  pub moment : X → ℕ
  pub admitted : X → Bool
  -- what the piece leaves of its key's entry
  pub step : Option Entry → X → Option Entry

-- the entry, unless all its pieces are there
abbrev pub if_incomplete : Entry → Option Entry
if_incomplete e = if is_complete e then None else Some e

-- the entry with one more piece, where it waits for the piece with that number
abbrev pub grown_entry : ℕ → List ℕ → ℕ → ℕ → Option Entry → Option Entry
grown_entry next piece moment gap None = None
grown_entry next piece moment gap (Some e) = if e.next == next then if_incomplete (grown e piece moment gap) else None

-- the entry, where it hasn't expired at the moment
abbrev pub left_at : Option Entry → ℕ → Option Entry
left_at None m = None
left_at (Some e) m = if is_expired m e then None else Some e

module _ {K : Type 0} where
  -- the map without all entries that have expired at the moment
  abbrev pub unexpired : ℕ → SlotMap K → SlotMap K
  unexpired m s = remaining (has_expired m) s

  module _ {X : Type 0} where
    -- the moment of the newest piece
    abbrev pub now_of : (X → ℕ) → List (K × X) → ℕ
    now_of moment [] = 0
    now_of moment (n ∷ h) = moment n.1

    module _ (cmp : K → K → Ordering) where
      -- the pieces of one key
      unfoldable pub pieces_at : K → List (K × X) → List X
      pieces_at k [] = []
      pieces_at k (n ∷ h) = if is_at (cmp k) n.0 then n.1 ∷ pieces_at k h else pieces_at k h

      -- the keys that have a piece, each once
      unfoldable pub keys_in : List (K × X) → List K
      keys_in [] = []
      keys_in (n ∷ h) = if list_any (is_at (cmp n.0)) (keys_in h) then keys_in h else n.0 ∷ keys_in h

      -- the keys that are open, and those of them that are others than this one
      abbrev pub open_keys : (List X → Bool) → List (K × X) → List K
      open_keys is_open h = filter (λ k. is_open (pieces_at k h)) (keys_in h)

      abbrev pub other_open_keys : (List X → Bool) → K → List (K × X) → List K
      other_open_keys is_open k h = filter (λ j. not (is_at (cmp k) j) && is_open (pieces_at j h)) (keys_in h)

      -- each piece came no earlier than those before it, and is noted as admitted exactly where fewer of the other keys than the
      -- limit were open then
      unfoldable pub IsNoted : (X → ℕ) → (X → Bool) → (List X → ℕ → Bool) → ℕ → List (K × X) → Type 0
      IsNoted moment admitted is_open limit [] = Unit {0}
      IsNoted moment admitted is_open limit (n ∷ h) =
          (now_of moment h ≤ moment n.1)
          × (admitted n.1 ≡ nat_lt (length (other_open_keys (λ p. is_open p (moment n.1)) n.0 h)) limit)
          × IsNoted moment admitted is_open limit h

-- what the pieces of one key make of its entry, which may expire before each
unfoldable pub entry_after : {X : Type 0} → Filling X → List X → Option Entry
entry_after f [] = None
entry_after f (x ∷ h) = f.step (left_at (entry_after f h) (f.moment x)) x

module _ {K X : Type 0} (cmp : K → K → Ordering) (f : Filling X) (after : SlotMap K → K → X → SlotMap K) where
  -- one piece does to the map what the step does to its key's entry, and leaves every other entry as it is
  pub record IsStep : Type 0 where
    pub here : (s : SlotMap K) (k : K) (x : X) → IsOrdered cmp s.entries → f.admitted x ≡ not (is_full cmp s k)
        → entry_at cmp (after s k x) k ≡ f.step (entry_at cmp s k) x
    pub others : (s : SlotMap K) (k j : K) (x : X) → IsOrdered cmp s.entries → is_at (cmp k) j ≡ false → entry_at cmp (after s k x) j ≡ entry_at cmp s j
    pub ordered : (s : SlotMap K) (k : K) (x : X) → IsOrdered cmp s.entries → IsOrdered cmp (after s k x).entries
    pub limit : (s : SlotMap K) (k : K) (x : X) → IsOrdered cmp s.entries → (after s k x).limit ≡ s.limit
    pub within : (s : SlotMap K) (k : K) (x : X) → IsOrdered cmp s.entries → length s.entries ≤ s.limit → length (after s k x).entries ≤ s.limit

  -- the map after the pieces, where all that has expired ends before each
  unfoldable pub map_after : ℕ → List (K × X) → SlotMap K
  map_after limit [] = record { limit = limit; entries = [] }
  map_after limit (n ∷ h) = after (unexpired (f.moment n.1) (map_after limit h)) n.0 n.1

  -- at each moment from the newest piece on, the map holds exactly what the pieces of each key make of its entry, and as many
  -- keys as are open
  pub record Joins (is_open : List X → ℕ → Bool) (limit : ℕ) (h : List (K × X)) : Type 0 where
    pub entries : (k : K) (m : ℕ) → now_of f.moment h ≤ m → entry_at cmp (unexpired m (map_after limit h)) k ≡ left_at (entry_after f (pieces_at cmp k h)) m
    pub count : (m : ℕ) → now_of f.moment h ≤ m → length (unexpired m (map_after limit h)).entries ≡ length (open_keys cmp (λ p. is_open p m) h)
