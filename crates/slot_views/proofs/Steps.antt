-- What each call makes of the map, by what is held at the key.
use Rattle.std.proofs.Common.{◌≡◌, ◌≢◌, ℕ, zero, suc, ◌+◌, ◌<◌, Bool, true, false, List, [], ◌∷◌, length, get_or, refl, sym, ◌∙◌, ap, Option, Some, None, is_some, option_map, IsSomeAnd, eq-eqb, arith}
use Rattle.std.specs.List.{remove, find}
use Rattle.std.specs.declared.cmp.Ordering.{Ordering}
use Rattle.std.specs.Map.{lookup, remove_entry}
use Rattle.std.specs.BTreeMap.{is_at}
use Rattle.std.proofs.lemmas.Bool.{ne_eqb}
use Rattle.slot_views.specs.declared.slot.Slot.{Slot}
use Rattle.slot_views.specs.Slots.{Entry, SlotMap, grown, entry_at, is_held, is_full, released, added, changed, begun_after, grown_from, grown_after, without_first}
use Rattle.slot_views.specs.Shelf.{entry_of, entries_of, IsAt, IsFirst, NoneShows}
use Rattle.slot_views.specs.declared.answers.Ended.{Ended}
use Rattle.slot_views.specs.Answers.{ended_of}
use Rattle.slot_views.proofs.Order.{lookup_found}

module _ {K : Type 0} (cmp : K → K → Ordering) (s : SlotMap K) (k : K) where
  module _ (next : ℕ) (piece : List ℕ) (moment gap : ℕ) where
    by_entry : (o : Option Entry) → entry_at cmp s k ≡ o → grown_from cmp s k next piece moment gap o ≡ grown_after cmp s k next piece moment gap
    by_entry o found = ap (grown_from cmp s k next piece moment gap) (sym found)

    pub grown_absent : entry_at cmp s k ≡ None → s ≡ grown_after cmp s k next piece moment gap
    grown_absent absent = by_entry None absent

    pub grown_other : (e : Entry) → entry_at cmp s k ≡ Some e → e.next ≢ next → released cmp s k ≡ grown_after cmp s k next piece moment gap
    grown_other e found other = let step : grown_from cmp s k next piece moment gap (Some e) ≡ released cmp s k = rw (ne_eqb e.next next other) refl in sym step ∙ by_entry (Some e) found

    pub grown_last : (e : Entry) → entry_at cmp s k ≡ Some e → e.next ≡ next → e.next + 1 ≡ e.need → released cmp s k ≡ grown_after cmp s k next piece moment gap
    grown_last e found same last = grind (arith, by_entry)

    pub grown_more : (e : Entry) → entry_at cmp s k ≡ Some e → e.next ≡ next → e.next + 1 ≢ e.need → changed cmp s k (grown e piece moment gap) ≡ grown_after cmp s k next piece moment gap
    grown_more e found same more = grind (arith, ne_eqb, by_entry)

  -- a fact on the entry, by the look-up
  pub on_entry : (P : Entry → Type 0) (e : Entry) → entry_at cmp s k ≡ Some e → P e → IsSomeAnd (entry_at cmp s k) P
  on_entry P e found holds = rw found holds

  module _ (e : Entry) where
    pub begun_full : is_full cmp s k ≡ true → s ≡ begun_after cmp s k e
    begun_full full = rw full refl

    pub begun_complete : is_full cmp s k ≡ false → e.next ≡ e.need → released cmp s k ≡ begun_after cmp s k e
    begun_complete room complete = rw (room, eq-eqb e.next e.need complete) refl

    pub begun_held : is_full cmp s k ≡ false → e.next ≢ e.need → added cmp (released cmp s k) k e ≡ begun_after cmp s k e
    begun_held room more = rw (room, ne_eqb e.next e.need more) refl

  -- a key that isn't held leaves nothing behind
  absent_step : (e : K × Entry) (es : List (K × Entry)) (b : Bool) → is_at (cmp k) e.0 ≡ b → (lookup (is_at (cmp k)) es ≡ None → remove_entry (is_at (cmp k)) es ≡ es)
      → lookup (is_at (cmp k)) (e ∷ es) ≡ None → remove_entry (is_at (cmp k)) (e ∷ es) ≡ e ∷ es
  absent_step e es b here rest none = grind arith

  remove_absent : (es : List (K × Entry)) → lookup (is_at (cmp k)) es ≡ None → remove_entry (is_at (cmp k)) es ≡ es
  remove_absent [] none = refl
  remove_absent (e ∷ es) none = absent_step e es (is_at (cmp k) e.0) refl (remove_absent es) none

  none_from_held : (o : Option Entry) → is_some o ≡ false → o ≡ None
  none_from_held o h = grind arith

  pub released_absent : is_held cmp s k ≡ false → released cmp s k ≡ s
  released_absent absent = rw (remove_absent s.entries (none_from_held (entry_at cmp s k) absent)) refl

  module _ (t : SlotMap K) (replaced : Bool) (spare : ℕ) where
    -- with no buffer to spare the map is full, and else it isn't
    pub full_from : t ≡ released cmp s k → replaced ≡ is_held cmp s k → (replaced ≡ true → 0 < spare) → length t.entries + spare ≡ t.limit → spare ≡ 0 → (is_full cmp s k ≡ true) × (t ≡ s)
    full_from after was room sum empty = grind (arith, released_absent)

    pub room_from : t ≡ released cmp s k → replaced ≡ is_held cmp s k → length t.entries + spare ≡ t.limit → 0 < spare → is_full cmp s k ≡ false
    room_from after was sum some = grind (arith, released_absent, ne_eqb)

module _ {K : Type 0} (p : K × Entry → Bool) where
  -- the first slot that passes is what the look-up finds and what is taken out
  pub find_first : (xs : List (Slot K)) (i : ℕ) (d : Slot K) → IsFirst p xs i → find p (entries_of xs) ≡ Some (entry_of (get_or xs i d))
  find_first [] i d first = absurd (omega (arith, first.in_range))
  find_first (x ∷ xs) zero d first = rw (first.here d) refl
  find_first (x ∷ xs) (suc i) d first = rw first.before.0 (find_first xs i d (record { in_range = omega (arith, first.in_range); before = first.before.1; here = first.here }))

  pub without_first_at : (xs : List (Slot K)) (i : ℕ) → IsFirst p xs i → without_first p (entries_of xs) ≡ entries_of (remove xs i)
  without_first_at [] i first = absurd (omega (arith, first.in_range))
  without_first_at (x ∷ xs) zero first = rw (first.here x) refl
  without_first_at (x ∷ xs) (suc i) first = grind (arith, without_first_at xs i (record { in_range = omega (arith, first.in_range); before = first.before.1; here = first.here }))

  pub find_none : (xs : List (Slot K)) → NoneShows p xs → find p (entries_of xs) ≡ None
  find_none [] none = refl
  find_none (x ∷ xs) none = rw none.0 (find_none xs none.1)

  pub without_none : (xs : List (Slot K)) → NoneShows p xs → without_first p (entries_of xs) ≡ entries_of xs
  without_none [] none = refl
  without_none (x ∷ xs) none = rw none.0 (ap {B = List (K × Entry)} (λ es. entry_of x ∷ es) (without_none xs none.1))

module _ {K : Type 0} (p : K × Entry → Bool) where
  -- what is told of the first slot that passes is what the look-up finds
  pub ended_first : (xs : List (Slot K)) (i : ℕ) (r : Ended K) → IsFirst p xs i → ((d : Slot K) → r ≡ ended_of (entry_of (get_or xs i d))) → Some r ≡ option_map ended_of (find p (entries_of xs))
  ended_first [] i r first told = absurd (omega (arith, first.in_range))
  ended_first (x ∷ xs) i r first told = ap Some (told x) ∙ sym (ap (option_map ended_of) (find_first p (x ∷ xs) i x first))

-- what is told of the slot at the key's place is what the look-up finds
pub told_found : {K A : Type 0} (cmp : K → K → Ordering) (k : K) (f : Entry → A) (xs : List (Slot K)) (i : ℕ) (r : A) → IsAt cmp k xs i → ((d : Slot K) → r ≡ f (entry_of (get_or xs i d)).1)
    → Some r ≡ option_map f (lookup (is_at (cmp k)) (entries_of xs))
told_found cmp k f [] i r at told = absurd (omega (arith, at.in_range))
told_found cmp k f (x ∷ xs) i r at told = ap Some (told x) ∙ sym (ap (option_map f) (lookup_found cmp k (x ∷ xs) i x at))

-- what follows from a fact on the value, and where that names no value
pub on_some : {X : Type 0} (o : Option X) (P Q : X → Type 0) → ((x : X) → P x → Q x) → IsSomeAnd o P → IsSomeAnd o Q
on_some o P Q step holds = grind arith

pub from_some : {X : Type 0} (o : Option X) (P : X → Type 0) (Q : Type 0) → ((x : X) → P x → Q) → IsSomeAnd o P → Q
from_some o P Q step holds = grind arith
