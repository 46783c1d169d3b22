-- What a search among slots in the order of their keys finds.
use Rattle.std.proofs.Common.{◌≡◌, ℕ, zero, suc, ◌<◌, ◌≤◌, List, [], ◌∷◌, length, get_or, take, drop, true, false, Result, IfOk, IfErr, refl, sym, ◌∙◌, ap, arith}
use Rattle.std.proofs.Math.Bool.{and-false}
use Rattle.std.specs.List.{AllByRecursion, remove}
use Rattle.std.proofs.lemmas.List.{get_or_default, get_or-map, length-map}
use Rattle.std.proofs.lemmas.List.Edits.{length-remove}
use Rattle.std.specs.Cmp.{IsTotalOrder}
use Rattle.std.specs.declared.cmp.Ordering.{Ordering}
use Rattle.std.specs.declared.cmp.Ordering.TheVariants.{Less, Equal, Greater}
use Rattle.std.specs.Ordering.{is_gt, is_eq}
use Rattle.slot_views.specs.declared.slot.Slot.{Slot}
use Rattle.slot_views.specs.Slots.{Entry, IsOrdered}
use Rattle.slot_views.specs.Places.{Below, Above, IsHeldAt, StandsAt}
use Rattle.slot_views.specs.Shelf.{entry_of, entries_of, NotBelow, IsAt, IsGap, IsFirst, NoneShows}
use Rattle.slot_views.specs.Slots.{is_between}

pub is_equal : (r : Ordering) → is_eq r ≡ true → r ≡ Equal
is_equal r is = grind arith

module _ {K : Type 0} {cmp : K → K → Ordering} (o : IsTotalOrder cmp) where
  -- what is greater than a key is greater than each lesser one
  above_lesser : (k x y : K) → cmp k y ≡ Greater → cmp x y ≡ Less → cmp k x ≡ Greater
  above_lesser k x y above lesser = grind arith

  -- the first key is less than the one at a place
  first_lesser : (x : Slot K) (xs : List (Slot K)) (i : ℕ) (d : Slot K) → AllByRecursion (λ e. cmp x.key e.0 ≡ Less) (entries_of xs) → i < length xs → cmp x.key (get_or xs i d).key ≡ Less
  first_lesser x [] i d all in_range = absurd (omega arith)
  first_lesser x (y ∷ xs) zero d all in_range = all.0
  first_lesser x (y ∷ xs) (suc i) d all in_range = first_lesser x xs i d all.1 (omega arith)

  -- the slots up to one with a lesser key have lesser keys
  pub below_from : (k : K) (xs : List (Slot K)) (i : ℕ) (d : Slot K) → IsOrdered cmp (entries_of xs) → i < length xs → cmp k (get_or xs i d).key ≡ Greater → Below cmp k (entries_of xs) (suc i)
  below_from k [] i d ordered in_range above = absurd (omega arith)
  below_from k (x ∷ xs) zero d ordered in_range above = (above, tt)
  below_from k (x ∷ xs) (suc i) d ordered in_range above = grind (arith, below_from k xs i d ordered.1 (omega arith) above, above_lesser, first_lesser)

  -- and those from one with a greater key on have greater keys
  all_above : (k x : K) (xs : List (Slot K)) → cmp k x ≡ Less → AllByRecursion (λ e. cmp x e.0 ≡ Less) (entries_of xs) → AllByRecursion (λ e. cmp k e.0 ≡ Less) (entries_of xs)
  all_above k x [] less all = tt
  all_above k x (y ∷ xs) less all = (o.trans k x y.key less all.0, all_above k x xs less all.1)

  pub above_from : (k : K) (xs : List (Slot K)) (i : ℕ) (d : Slot K) → IsOrdered cmp (entries_of xs) → i < length xs → cmp k (get_or xs i d).key ≡ Less → Above cmp k (entries_of xs) i
  above_from k [] i d ordered in_range less = absurd (omega arith)
  above_from k (x ∷ xs) zero d ordered in_range less = (less, all_above k x.key xs less ordered.0)
  above_from k (x ∷ xs) (suc i) d ordered in_range less = above_from k xs i d ordered.1 (omega arith) less

  -- the slots before one with an equal key have lesser keys
  pub below_equal : (k : K) (xs : List (Slot K)) (i : ℕ) (d : Slot K) → IsOrdered cmp (entries_of xs) → i < length xs → cmp k (get_or xs i d).key ≡ Equal → Below cmp k (entries_of xs) i
  below_equal k [] i d ordered in_range equal = absurd (omega arith)
  below_equal k (x ∷ xs) zero d ordered in_range equal = tt
  below_equal k (x ∷ xs) (suc i) d ordered in_range equal = grind (arith, below_equal k xs i d ordered.1 (omega arith) equal, first_lesser)

  -- a slot that was read at its place, and whose key is equal
  pub equal_at : (k : K) (xs : List (Slot K)) (i : ℕ) (d : Slot K) → IsOrdered cmp (entries_of xs) → i < length xs → cmp k (get_or xs i d).key ≡ Equal → IsAt cmp k xs i
  equal_at k xs i d ordered in_range equal = grind (arith, below_equal, get_or_default)

  -- the keys after one that is equal are greater
  all_after : (k x : K) (xs : List (Slot K)) → cmp k x ≡ Equal → AllByRecursion (λ e. cmp x e.0 ≡ Less) (entries_of xs) → AllByRecursion (λ e. cmp k e.0 ≡ Less) (entries_of xs)
  all_after k x [] equal all = tt
  all_after k x (y ∷ xs) equal all = (o.congr k x y.key equal ∙ all.0, all_after k x xs equal all.1)

  -- without the key's slot there is a gap in its place
  pub above_removed : (k : K) (xs : List (Slot K)) (i : ℕ) (d : Slot K) → IsOrdered cmp (entries_of xs) → i < length xs → cmp k (get_or xs i d).key ≡ Equal → Above cmp k (entries_of (remove xs i)) i
  above_removed k [] i d ordered in_range equal = absurd (omega arith)
  above_removed k (x ∷ xs) zero d ordered in_range equal = all_after k x.key xs equal ordered.0
  above_removed k (x ∷ xs) (suc i) d ordered in_range equal = above_removed k xs i d ordered.1 (omega arith) equal

  below_removed : (k : K) (xs : List (Slot K)) (i : ℕ) → Below cmp k (entries_of xs) i → Below cmp k (entries_of (remove xs i)) i
  below_removed k xs zero below = tt
  below_removed k [] (suc i) below = tt
  below_removed k (x ∷ xs) (suc i) below = (below.0, below_removed k xs i below.1)

  pub gap_removed : (k : K) (xs : List (Slot K)) (i : ℕ) → IsOrdered cmp (entries_of xs) → IsAt cmp k xs i → IsGap cmp k (remove xs i) i
  gap_removed k [] i ordered at = absurd (omega (arith, at.in_range))
  gap_removed k (x ∷ xs) i ordered at = record {
    in_range = omega (arith, length-remove (x ∷ xs) i at.in_range, at.in_range);
    below = below_removed k (x ∷ xs) i at.below;
    above = above_removed k (x ∷ xs) i x ordered at.in_range (at.here x);
  }

  -- from the key's place, or from its gap, on no key is lesser
  not_below_all : (k : K) (es : List (K × Entry)) → AllByRecursion (λ e. cmp k e.0 ≡ Less) es → AllByRecursion (λ e. is_gt (cmp k e.0) ≡ false) es
  not_below_all k [] all = tt
  not_below_all k (e ∷ es) all = (ap is_gt all.0, not_below_all k es all.1)

  pub not_below_gap : (k : K) (xs : List (Slot K)) (i : ℕ) → Above cmp k (entries_of xs) i → NotBelow cmp k xs i
  not_below_gap k xs i above = not_below_all k (drop i (entries_of xs)) above

  not_below_from : (k : K) (xs : List (Slot K)) (i : ℕ) (d : Slot K) → IsOrdered cmp (entries_of xs) → i < length xs → cmp k (get_or xs i d).key ≡ Equal → NotBelow cmp k xs i
  not_below_from k [] i d ordered in_range equal = absurd (omega arith)
  not_below_from k (x ∷ xs) zero d ordered in_range equal = (ap is_gt equal, not_below_all k (entries_of xs) (all_after k x.key xs equal ordered.0))
  not_below_from k (x ∷ xs) (suc i) d ordered in_range equal = not_below_from k xs i d ordered.1 (omega arith) equal

  pub not_below_found : (k : K) (xs : List (Slot K)) (i : ℕ) → IsOrdered cmp (entries_of xs) → IsAt cmp k xs i → NotBelow cmp k xs i
  not_below_found k [] i ordered at = absurd (omega (arith, at.in_range))
  not_below_found k (x ∷ xs) i ordered at = not_below_from k (x ∷ xs) i x ordered at.in_range (at.here x)

  -- keys above a key that is above high
  beyond : (high x y : K) → cmp x high ≡ Greater → cmp x y ≡ Less → cmp y high ≡ Greater
  beyond high x y above lesser = grind arith

  all_beyond : (low high x : K) (xs : List (Slot K)) → cmp x high ≡ Greater → AllByRecursion (λ e. cmp x e.0 ≡ Less) (entries_of xs) → NoneShows (is_between cmp low high) xs
  all_beyond low high x [] above all = tt
  all_beyond low high x (y ∷ xs) above all = grind (arith, all_beyond low high x xs above all.1, beyond, and-false)

  -- the least key from low on decides
  pub first_between : (low high : K) (xs : List (Slot K)) (i : ℕ) (d : Slot K) → i < length xs → Below cmp low (entries_of xs) i → NotBelow cmp low xs i → is_gt (cmp (get_or xs i d).key high) ≡ false → IsFirst (is_between cmp low high) xs i
  first_between low high xs i d in_range below not_below under = record {
    in_range = in_range;
    before = none_below low high xs i below;
    here = λ e. rw (get_or_default xs i e d in_range) (both low high xs i d in_range not_below under);
  }
    where
      none_below : (low high : K) (xs : List (Slot K)) (i : ℕ) → Below cmp low (entries_of xs) i → NoneShows (is_between cmp low high) (take i xs)
      none_below low high xs zero below = tt
      none_below low high [] (suc i) below = tt
      none_below low high (x ∷ xs) (suc i) below = (rw below.0 refl, none_below low high xs i below.1)

      both : (low high : K) (xs : List (Slot K)) (i : ℕ) (d : Slot K) → i < length xs → NotBelow cmp low xs i → is_gt (cmp (get_or xs i d).key high) ≡ false → is_between cmp low high (entry_of (get_or xs i d)) ≡ true
      both low high [] i d in_range not_below under = absurd (omega arith)
      both low high (x ∷ xs) zero d in_range not_below under = rw (not_below.0, under) refl
      both low high (x ∷ xs) (suc i) d in_range not_below under = both low high xs i d (omega arith) not_below under

  pub none_between : (low high : K) (xs : List (Slot K)) (i : ℕ) (d : Slot K) → IsOrdered cmp (entries_of xs) → i < length xs → Below cmp low (entries_of xs) i → cmp (get_or xs i d).key high ≡ Greater → NoneShows (is_between cmp low high) xs
  none_between low high [] i d ordered in_range below above = absurd (omega arith)
  none_between low high (x ∷ xs) zero d ordered in_range below above = grind (arith, and-false, all_beyond)
  none_between low high (x ∷ xs) (suc i) d ordered in_range below above = (rw below.0 refl, none_between low high xs i d ordered.1 (omega arith) below.1 above)

  pub none_between_below : (low high : K) (xs : List (Slot K)) (i : ℕ) → length xs ≤ i → Below cmp low (entries_of xs) i → NoneShows (is_between cmp low high) xs
  none_between_below low high [] i past below = tt
  none_between_below low high (x ∷ xs) zero past below = absurd (omega arith)
  none_between_below low high (x ∷ xs) (suc i) past below = (rw below.0 refl, none_between_below low high xs i (omega arith) below.1)

-- a place among the slots is one among the entries that they show
module _ {K : Type 0} (cmp : K → K → Ordering) (k : K) where
  held_shown : (xs : List (Slot K)) (i : ℕ) → IsAt cmp k xs i → IsHeldAt cmp k (entries_of xs) i
  held_shown [] i at = absurd (omega (arith, at.in_range))
  held_shown (x ∷ xs) i at = record {
    in_range = omega (arith, length-map (x ∷ xs) entry_of, at.in_range);
    below = at.below;
    here = λ e. ap (λ (d : K × Entry). cmp k d.0) (get_or-map entry_of (x ∷ xs) i x e at.in_range) ∙ at.here x;
  }

  slot_held : (xs : List (Slot K)) (i : ℕ) → IsHeldAt cmp k (entries_of xs) i → IsAt cmp k xs i
  slot_held xs i held =
      let inside : i < length xs = omega (arith, length-map xs entry_of, held.in_range) in
      record {
        in_range = inside;
        below = held.below;
        here = λ d. ap (λ (e : K × Entry). cmp k e.0) (sym (get_or-map entry_of xs i d (entry_of d) inside)) ∙ held.here (entry_of d);
      }

  pub stands : (xs : List (Slot K)) (r : Result ℕ ℕ) → IfOk r (IsAt cmp k xs) → IfErr r (IsGap cmp k xs) → StandsAt cmp k (entries_of xs) r
  stands xs r found absent = grind (arith, held_shown, length-map)

  pub found_from : (xs : List (Slot K)) (r : Result ℕ ℕ) → StandsAt cmp k (entries_of xs) r → IfOk r (IsAt cmp k xs)
  found_from xs r stands = grind (arith, stands, slot_held)

  pub absent_from : (xs : List (Slot K)) (r : Result ℕ ℕ) → StandsAt cmp k (entries_of xs) r → IfErr r (IsGap cmp k xs)
  absent_from xs r stands = grind (arith, stands, length-map)
