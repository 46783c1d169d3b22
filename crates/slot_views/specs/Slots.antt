-- What a caller sees of the slots: a limit, and the entries in the order of their keys; and what each call makes of them.
use Rattle.std.specs.Prelude.{◌≡◌, ℕ, ◌+◌, ◌-◌, Bool, ◌≤◌, false, ◌&&◌, not, ◌==◌, nat_lt, if◌then◌else◌, List, [], ◌∷◌, ◌++◌, length, Option, Some, None, is_some, refl}
use Rattle.std.specs.Coded.{Coded, code_by, coded×, coded_ℕ, coded_list}
use Rattle.std.specs.declared.cmp.Ordering.{Ordering}
use Rattle.std.specs.declared.cmp.Ordering.TheVariants.{Less}
use Rattle.std.specs.Ordering.{is_gt}
use Rattle.std.specs.List.{AllByRecursion, filter}
use Rattle.std.specs.Map.{lookup, remove_entry, set_value}
use Rattle.std.specs.BTreeMap.{is_at, insert_entry}

-- one message in the making
pub record Entry : Type 0 where
  -- the pieces so far, joined
  pub bytes : List ℕ
  -- the number of the piece that comes next, and the number of pieces in all
  pub next : ℕ
  pub need : ℕ
  -- the moment of the last piece, and how long the next one may take after it
  pub last : ℕ
  pub gap : ℕ
  -- the caller's own number
  pub mark : ℕ

-- the entries stand in the order of their keys
pub record SlotMap (K : Type 0) : Type 0 where
  pub limit : ℕ
  pub entries : List (K × Entry)

abbrev pub entry_code : Coded Entry
entry_code =
    code_by (List ℕ × ((ℕ × ℕ) × ((ℕ × ℕ) × ℕ))) (coded× (coded_list coded_ℕ) (coded× (coded× coded_ℕ coded_ℕ) (coded× (coded× coded_ℕ coded_ℕ) coded_ℕ)))
    (λ e. (e.bytes, ((e.next, e.need), ((e.last, e.gap), e.mark))))
    (λ p. record { bytes = p.0; next = p.1.0.0; need = p.1.0.1; last = p.1.1.0.0; gap = p.1.1.0.1; mark = p.1.1.1 }) (λ _. refl)

abbrev pub slot_map_code : {K : Type 0} → Coded K → Coded (SlotMap K)
slot_map_code {K} key =
    code_by (ℕ × List (K × Entry)) (coded× coded_ℕ (coded_list (coded× key entry_code))) (λ s. (s.limit, s.entries))
    (λ p. record { limit = p.0; entries = p.1 }) (λ _. refl)

-- an entry as it opens with its first piece
abbrev pub opened : List ℕ → ℕ → ℕ → ℕ → ℕ → Entry
opened piece need moment gap mark = record { bytes = piece; next = 1; need = need; last = moment; gap = gap; mark = mark }

-- the entry with one more piece
abbrev pub grown : Entry → List ℕ → ℕ → ℕ → Entry
grown e piece moment gap = record { bytes = e.bytes ++ piece; next = e.next + 1; need = e.need; last = moment; gap = gap; mark = e.mark }

-- every piece is there
abbrev pub is_complete : Entry → Bool
is_complete e = e.next == e.need

-- more time than its gap has passed since the entry's last piece
abbrev pub is_expired : ℕ → Entry → Bool
is_expired moment e = nat_lt e.gap (moment - e.last)

-- the list without its first element that passes the test
abbrev pub without_first : {X : Type 0} → (X → Bool) → List X → List X
without_first p [] = []
without_first p (x ∷ xs) = if p x then xs else x ∷ without_first p xs

module _ {K : Type 0} where
  -- the keys rise
  abbrev pub IsOrdered : (K → K → Ordering) → List (K × Entry) → Type 0
  IsOrdered cmp [] = Unit {0}
  IsOrdered cmp (e ∷ es) = AllByRecursion (λ d. cmp e.0 d.0 ≡ Less) es × IsOrdered cmp es

  -- the keys rise, and are no more than the limit: so it is with all slots
  pub record IsMap (cmp : K → K → Ordering) (s : SlotMap K) : Type 0 where
    pub ordered : IsOrdered cmp s.entries
    pub within : length s.entries ≤ s.limit

  -- the map with these entries
  abbrev pub with_entries : SlotMap K → List (K × Entry) → SlotMap K
  with_entries s es = record { limit = s.limit; entries = es }

  -- the map without its first entry that passes the test
  abbrev pub without : SlotMap K → (K × Entry → Bool) → SlotMap K
  without s p = with_entries s (without_first p s.entries)

  -- the map without all entries that pass the test
  abbrev pub remaining : (K × Entry → Bool) → SlotMap K → SlotMap K
  remaining p s = with_entries s (filter (λ e. not (p e)) s.entries)

  module _ (cmp : K → K → Ordering) where
    -- the entry of the key, where it is held
    abbrev pub entry_at : SlotMap K → K → Option Entry
    entry_at s k = lookup (is_at (cmp k)) s.entries

    abbrev pub is_held : SlotMap K → K → Bool
    is_held s k = is_some (entry_at s k)

    -- t is s but for the key, which has this entry now, or none
    pub record Changes (s t : SlotMap K) (k : K) (e : Option Entry) : Type 0 where
      pub here : entry_at t k ≡ e
      pub others : (j : K) → is_at (cmp k) j ≡ false → entry_at t j ≡ entry_at s j
      pub limit : t.limit ≡ s.limit
      pub map : IsMap cmp t

    -- there is no room for the key: it isn't held, and as many keys as the limit are
    abbrev pub is_full : SlotMap K → K → Bool
    is_full s k = not (is_held s k) && (length s.entries == s.limit)

    -- the map without the key; the others stay
    abbrev pub released : SlotMap K → K → SlotMap K
    released s k = with_entries s (remove_entry (is_at (cmp k)) s.entries)

    -- the map with the entry at the key, which isn't held, in the keys' order
    abbrev pub added : SlotMap K → K → Entry → SlotMap K
    added s k e = with_entries s (insert_entry cmp s.entries k e)

    -- the map with another entry at the key, which is held
    abbrev pub changed : SlotMap K → K → Entry → SlotMap K
    changed s k e = with_entries s (set_value (is_at (cmp k)) s.entries e)

    -- after `begin`: the key's old entry goes, and the new one comes unless it is complete at once
    abbrev pub begun_after : SlotMap K → K → Entry → SlotMap K
    begun_after s k e = if is_full s k then s else if is_complete e then released s k else added (released s k) k e

    -- after `grow`, by what is held at the key
    abbrev pub grown_from : SlotMap K → K → ℕ → List ℕ → ℕ → ℕ → Option Entry → SlotMap K
    grown_from s k next piece moment gap None = s
    grown_from s k next piece moment gap (Some e) =
        if e.next == next then (if is_complete (grown e piece moment gap) then released s k else changed s k (grown e piece moment gap)) else released s k

    abbrev pub grown_after : SlotMap K → K → ℕ → List ℕ → ℕ → ℕ → SlotMap K
    grown_after s k next piece moment gap = grown_from s k next piece moment gap (entry_at s k)

    -- the key lies from low to high, both included
    abbrev pub is_between : K → K → K × Entry → Bool
    is_between low high e = not (is_gt (cmp low e.0)) && not (is_gt (cmp e.0 high))

-- the entry has expired at the moment
abbrev pub has_expired : {K : Type 0} → ℕ → K × Entry → Bool
has_expired moment e = is_expired moment e.1
