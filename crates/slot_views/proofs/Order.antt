-- The keys still rise after an edit, and what the map makes of it.
use Rattle.std.proofs.Common.{◌≡◌, ℕ, zero, suc, ◌<◌, List, [], ◌∷◌, length, get_or, set, refl, sym, ◌∙◌, ap, Some, None, is_some, true, arith}
use Rattle.std.specs.List.{AllByRecursion, insert, remove}
use Rattle.std.specs.Cmp.{IsTotalOrder}
use Rattle.std.specs.declared.cmp.Ordering.{Ordering}
use Rattle.std.specs.declared.cmp.Ordering.TheVariants.{Less, Equal, Greater}
use Rattle.std.specs.Ordering.{ordering_reverse}
use Rattle.std.specs.Map.{lookup, remove_entry, set_value}
use Rattle.std.specs.BTreeMap.{is_at, insert_entry}
use Rattle.slot_views.specs.declared.slot.Slot.{Slot}
use Rattle.slot_views.specs.Slots.{Entry}
use Rattle.slot_views.specs.Slots.{IsOrdered}
use Rattle.slot_views.specs.Places.{Below, Above}
use Rattle.slot_views.specs.Shelf.{entry_of, entries_of, IsAt, Extends}

module _ {K : Type 0} (cmp : K → K → Ordering) where
  pub all_removed : (P : K × Entry → Type 0) (xs : List (Slot K)) (i : ℕ) → AllByRecursion P (entries_of xs) → AllByRecursion P (entries_of (remove xs i))
  all_removed P [] zero all = tt
  all_removed P [] (suc i) all = tt
  all_removed P (x ∷ xs) zero all = all.1
  all_removed P (x ∷ xs) (suc i) all = (all.0, all_removed P xs i all.1)

  pub ordered_remove : (xs : List (Slot K)) (i : ℕ) → IsOrdered cmp (entries_of xs) → IsOrdered cmp (entries_of (remove xs i))
  ordered_remove [] zero ordered = tt
  ordered_remove [] (suc i) ordered = tt
  ordered_remove (x ∷ xs) zero ordered = ordered.1
  ordered_remove (x ∷ xs) (suc i) ordered = (all_removed (λ d. cmp x.key d.0 ≡ Less) xs i ordered.0, ordered_remove xs i ordered.1)

  -- a slot that keeps its key keeps the order
  all_written : (x : K) (xs : List (Slot K)) (i : ℕ) (s d : Slot K) → s.key ≡ (get_or xs i d).key → AllByRecursion (λ e. cmp x e.0 ≡ Less) (entries_of xs) → AllByRecursion (λ e. cmp x e.0 ≡ Less) (entries_of (set xs i s))
  all_written x [] i s d same all = tt
  all_written x (y ∷ xs) zero s d same all = (rw same all.0, all.1)
  all_written x (y ∷ xs) (suc i) s d same all = (all.0, all_written x xs i s d same all.1)

  pub ordered_set : (xs : List (Slot K)) (i : ℕ) (s d : Slot K) → s.key ≡ (get_or xs i d).key → IsOrdered cmp (entries_of xs) → IsOrdered cmp (entries_of (set xs i s))
  ordered_set [] i s d same ordered = tt
  ordered_set (x ∷ xs) zero s d same ordered = (rw same ordered.0, ordered.1)
  ordered_set (x ∷ xs) (suc i) s d same ordered = (all_written x.key xs i s d same ordered.0, ordered_set xs i s d same ordered.1)

  module _ (o : IsTotalOrder cmp) where
    turn : (x y : K) → cmp x y ≡ Greater → cmp y x ≡ Less
    turn x y greater = o.antisymm y x ∙ ap ordering_reverse greater

    all_inserted : (P : K × Entry → Type 0) (xs : List (Slot K)) (i : ℕ) (s : Slot K) → AllByRecursion P (entries_of xs) → P (entry_of s) → AllByRecursion P (entries_of (insert xs i s))
    all_inserted P xs zero s all holds = (holds, all)
    all_inserted P [] (suc i) s all holds = (holds, tt)
    all_inserted P (x ∷ xs) (suc i) s all holds = (all.0, all_inserted P xs i s all.1 holds)

    -- a slot in the gap for its key keeps the order
    pub ordered_insert : (xs : List (Slot K)) (i : ℕ) (s : Slot K) → Below cmp s.key (entries_of xs) i → Above cmp s.key (entries_of xs) i → IsOrdered cmp (entries_of xs) → IsOrdered cmp (entries_of (insert xs i s))
    ordered_insert xs zero s below above ordered = (above, ordered)
    ordered_insert [] (suc i) s below above ordered = (tt, tt)
    ordered_insert (x ∷ xs) (suc i) s below above ordered =
        (all_inserted (λ e. cmp x.key e.0 ≡ Less) xs i s ordered.0 (turn s.key x.key below.0), ordered_insert xs i s below.1 above ordered.1)

  module _ (k : K) where
    -- what is found at the key's place, and at a gap
    pub lookup_at : (xs : List (Slot K)) (i : ℕ) (d : Slot K) → i < length xs → Below cmp k (entries_of xs) i → cmp k (get_or xs i d).key ≡ Equal → lookup (is_at (cmp k)) (entries_of xs) ≡ Some (entry_of (get_or xs i d)).1
    lookup_at [] i d in_range below equal = absurd (omega arith)
    lookup_at (x ∷ xs) zero d in_range below equal = rw equal refl
    lookup_at (x ∷ xs) (suc i) d in_range below equal = rw below.0 (lookup_at xs i d (omega arith) below.1 equal)

    pub lookup_gap : (xs : List (Slot K)) (i : ℕ) → Below cmp k (entries_of xs) i → Above cmp k (entries_of xs) i → lookup (is_at (cmp k)) (entries_of xs) ≡ None
    lookup_gap [] zero below above = refl
    lookup_gap [] (suc i) below above = refl
    lookup_gap (x ∷ xs) zero below above = rw above.0 (lookup_gap xs zero tt above.1)
    lookup_gap (x ∷ xs) (suc i) below above = rw below.0 (lookup_gap xs i below.1 above)

    -- what the edits at the key make of the list
    pub remove_at : (xs : List (Slot K)) (i : ℕ) (d : Slot K) → i < length xs → Below cmp k (entries_of xs) i → cmp k (get_or xs i d).key ≡ Equal → remove_entry (is_at (cmp k)) (entries_of xs) ≡ entries_of (remove xs i)
    remove_at [] i d in_range below equal = absurd (omega arith)
    remove_at (x ∷ xs) zero d in_range below equal = rw equal refl
    remove_at (x ∷ xs) (suc i) d in_range below equal = rw below.0 (ap {B = List (K × Entry)} (λ es. entry_of x ∷ es) (remove_at xs i d (omega arith) below.1 equal))

    pub remove_gap : (xs : List (Slot K)) (i : ℕ) → Below cmp k (entries_of xs) i → Above cmp k (entries_of xs) i → remove_entry (is_at (cmp k)) (entries_of xs) ≡ entries_of xs
    remove_gap [] zero below above = refl
    remove_gap [] (suc i) below above = refl
    remove_gap (x ∷ xs) zero below above = rw above.0 (ap {B = List (K × Entry)} (λ es. entry_of x ∷ es) (remove_gap xs zero tt above.1))
    remove_gap (x ∷ xs) (suc i) below above = rw below.0 (ap {B = List (K × Entry)} (λ es. entry_of x ∷ es) (remove_gap xs i below.1 above))

    pub insert_gap : (xs : List (Slot K)) (i : ℕ) (s : Slot K) (e : Entry) → entry_of s ≡ (k, e) → Below cmp k (entries_of xs) i → Above cmp k (entries_of xs) i → insert_entry cmp (entries_of xs) k e ≡ entries_of (insert xs i s)
    insert_gap [] zero s e is below above = rw is refl
    insert_gap [] (suc i) s e is below above = rw is refl
    insert_gap (x ∷ xs) zero s e is below above = rw (above.0, is) refl
    insert_gap (x ∷ xs) (suc i) s e is below above = rw below.0 (ap {B = List (K × Entry)} (λ es. entry_of x ∷ es) (insert_gap xs i s e is below.1 above))

    pub set_at : (xs : List (Slot K)) (i : ℕ) (s d : Slot K) (e : Entry) → entry_of s ≡ ((get_or xs i d).key, e) → i < length xs → Below cmp k (entries_of xs) i → cmp k (get_or xs i d).key ≡ Equal → set_value (is_at (cmp k)) (entries_of xs) e ≡ entries_of (set xs i s)
    set_at [] i s d e is in_range below equal = absurd (omega arith)
    set_at (x ∷ xs) zero s d e is in_range below equal = rw (equal, is) refl
    set_at (x ∷ xs) (suc i) s d e is in_range below equal = rw below.0 (ap {B = List (K × Entry)} (λ es. entry_of x ∷ es) (set_at xs i s d e is (omega arith) below.1 equal))

    -- the same, by what a search says
    pub removed_found : (xs : List (Slot K)) (i : ℕ) → IsAt cmp k xs i → remove_entry (is_at (cmp k)) (entries_of xs) ≡ entries_of (remove xs i)
    removed_found [] i at = absurd (omega (arith, at.in_range))
    removed_found (x ∷ xs) i at = remove_at (x ∷ xs) i x at.in_range at.below (at.here x)

    pub lookup_found : (xs : List (Slot K)) (i : ℕ) (d : Slot K) → IsAt cmp k xs i → lookup (is_at (cmp k)) (entries_of xs) ≡ Some (entry_of (get_or xs i d)).1
    lookup_found xs i d at = lookup_at xs i d at.in_range at.below (at.here d)

    pub held_found : (xs : List (Slot K)) (i : ℕ) → IsAt cmp k xs i → is_some (lookup (is_at (cmp k)) (entries_of xs)) ≡ true
    held_found [] i at = absurd (omega (arith, at.in_range))
    held_found (x ∷ xs) i at = ap is_some (lookup_found (x ∷ xs) i x at)

    pub lookup_read : (xs : List (Slot K)) (i : ℕ) (s : Slot K) → IsAt cmp k xs i → s ≡ get_or xs i s → lookup (is_at (cmp k)) (entries_of xs) ≡ Some (entry_of s).1
    lookup_read xs i s at read = lookup_found xs i s at ∙ ap (λ (x : Slot K). Some (entry_of x).1) (sym read)

    pub changed_found : (xs new : List (Slot K)) (i : ℕ) (d : Slot K) (e : Entry) → IsAt cmp k xs i → Extends xs new i e → set_value (is_at (cmp k)) (entries_of xs) e ≡ entries_of new
    changed_found xs new i d e at (s, same, shows) = set_at xs i s d e (shows d) at.in_range at.below (at.here d) ∙ ap entries_of (sym same)
