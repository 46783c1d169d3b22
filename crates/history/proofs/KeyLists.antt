-- A map in key order holds the open keys in the order in which they are reported.
use Rattle.std.proofs.Common.{◌≡◌, Bool, true, false, ◌&&◌, List, [], ◌∷◌, map, is_some, refl, sym, ap, ◌∙◌, arith}
use Rattle.std.specs.Prelude.{Some, filter, if◌then◌else◌}
use Rattle.std.specs.List.{AllByRecursion, list_any}
use Rattle.std.specs.Cmp.{IsTotalOrder}
use Rattle.std.specs.Ordering.{is_lt, ordering_reverse}
use Rattle.std.specs.Map.{lookup}
use Rattle.std.specs.BTreeMap.{is_at}
use Rattle.std.specs.declared.cmp.Ordering.{Ordering}
use Rattle.std.specs.declared.cmp.Ordering.TheVariants.{Less, Equal, Greater}
use Rattle.std.proofs.lemmas.Bool.{and_parts, false≢true, or_parts}
use Rattle.slot_views.specs.Slots.{Entry, SlotMap, IsOrdered, entry_at}
use Rattle.slot_views.proofs.Tied.{same_itself}
use Rattle.history.specs.Opens.{inserted, with_key}
use Rattle.history.proofs.Counts.{Held, all_inserted, any_tells, filter_twice}
use Rattle.history.proofs.Fewer.{among_filtered}

module _ {K : Type 0} (cmp : K → K → Ordering) (o : IsTotalOrder cmp) where
  -- each key of a list is less than those behind it
  abbrev pub IsSorted : List K → Type 0
  IsSorted [] = Unit {0}
  IsSorted (x ∷ xs) = AllByRecursion (λ d. cmp x d ≡ Less) xs × IsSorted xs

  less_turned : (x y : K) → cmp x y ≡ Less → cmp y x ≡ Greater
  less_turned x y e = o.antisymm y x ∙ ap ordering_reverse e

  greater_turned : (x y : K) → cmp x y ≡ Greater → cmp y x ≡ Less
  greater_turned x y e = o.antisymm y x ∙ ap ordering_reverse e

  behind : (x y : K) (ys : List K) → cmp x y ≡ Less → AllByRecursion (λ d. cmp y d ≡ Less) ys → AllByRecursion (λ d. cmp x d ≡ Less) ys
  behind x y [] e all = tt
  behind x y (z ∷ ys) e all = (o.trans x y z e all.0, behind x y ys e all.1)

  not_among : (x : K) (ys : List K) → AllByRecursion (λ d. cmp x d ≡ Less) ys → list_any (is_at (cmp x)) ys ≡ false
  not_among x [] all = refl
  not_among x (y ∷ ys) all = rw all.0 (not_among x ys all.1)

  -- ---- a key put to others in their order

  module _ (same before : K → K → Bool) (tells : (a b : K) → is_at (cmp a) b ≡ same a b) (sorts : (a b : K) → before a b ≡ is_lt (cmp a b)) where
    sorted_inserted : (k : K) (ks : List K) → list_any (same k) ks ≡ false → IsSorted ks → IsSorted (inserted before k ks)
    sorted_inserted k [] none sorted = (tt, tt)
    sorted_inserted k (x ∷ ks) none sorted =
        by (cmp k x) refl (sorts k x) (or_parts (same k x) (list_any (same k) ks) none).0 (sorted_inserted k ks (or_parts (same k x) (list_any (same k) ks) none).1 sorted.1)
      where
        by : (c : Ordering) → cmp k x ≡ c → before k x ≡ is_lt (cmp k x) → same k x ≡ false → IsSorted (inserted before k ks) → IsSorted (if before k x then k ∷ x ∷ ks else x ∷ inserted before k ks)
        by Less e is other rest = rw (is, e) ((e, behind k x ks e sorted.0), sorted)
        by Equal e is other rest = let here : same k x ≡ true = sym (tells k x) ∙ rw e refl in absurd (false≢true (sym other ∙ here))
        by Greater e is other rest = rw (is, e) (all_inserted (λ d. cmp x d ≡ Less) before k ks (greater_turned k x e) sorted.0, rest)

    pub sorted_placed : (k : K) (ks : List K) → IsSorted ks → IsSorted (with_key same before k ks)
    sorted_placed k ks sorted = grind (arith, sorted_inserted)

  -- ---- the keys of which a list is left

  all_filtered : (P : K → Type 0) (p : K → Bool) (ks : List K) → AllByRecursion P ks → AllByRecursion P (filter p ks)
  all_filtered P p [] all = tt
  all_filtered P p (k ∷ ks) all = grind (arith, all_filtered P p ks all.1)

  sorted_filtered : (p : K → Bool) (ks : List K) → IsSorted ks → IsSorted (filter p ks)
  sorted_filtered p [] sorted = tt
  sorted_filtered p (k ∷ ks) sorted = grind (arith, sorted_filtered p ks sorted.1, all_filtered)

  -- ---- two sorted lists of the same keys are one list

  module _ (same_is : (a b : K) → is_at (cmp a) b ≡ true → a ≡ b) where
    abbrev Within : List K → List K → Type 0
    Within xs ys = (k : K) → list_any (is_at (cmp k)) xs ≡ true → list_any (is_at (cmp k)) ys ≡ true

    here : (x : K) (xs : List K) → list_any (is_at (cmp x)) (x ∷ xs) ≡ true
    here x xs = rw (same_itself o x) refl

    later : (k x : K) (xs : List K) → list_any (is_at (cmp k)) xs ≡ true → list_any (is_at (cmp k)) (x ∷ xs) ≡ true
    later k x xs e = grind arith

    -- a key that is less than all of a list's isn't in it
    before_all : (x y : K) (ys : List K) → cmp x y ≡ Less → IsSorted (y ∷ ys) → list_any (is_at (cmp x)) (y ∷ ys) ≡ false
    before_all x y ys e sorted = not_among x (y ∷ ys) (e, behind x y ys e sorted.0)

    tails : (x : K) (xs ys : List K) → IsSorted (x ∷ xs) → Within (x ∷ xs) (x ∷ ys) → Within xs ys
    tails x xs ys sorted within k e = grind (arith, later, false≢true, not_among)

    one_list : (xs ys : List K) → IsSorted xs → IsSorted ys → Within xs ys → Within ys xs → xs ≡ ys
    one_list [] [] sx sy to from = refl
    one_list [] (y ∷ ys) sx sy to from = absurd (false≢true (from y (here y ys)))
    one_list (x ∷ xs) [] sx sy to from = absurd (false≢true (to x (here x xs)))
    one_list (x ∷ xs) (y ∷ ys) sx sy to from = by (cmp x y) refl (λ t f. one_list xs ys sx.1 sy.1 t f)
      where
        by : (c : Ordering) → cmp x y ≡ c → (Within xs ys → Within ys xs → xs ≡ ys) → x ∷ xs ≡ y ∷ ys
        by c e rest = grind (arith, false≢true, before_all, here, greater_turned, tails)

-- ---- the keys of a map

keys_of : {K : Type 0} → List (K × Entry) → List K
keys_of es = map (λ e. e.0) es

keys_filtered : {K : Type 0} (p : K → Bool) (q : K × Entry → Bool) (es : List (K × Entry)) → AllByRecursion (λ e. q e ≡ p e.0) es → keys_of (filter q es) ≡ filter p (keys_of es)
unfolding keys_of
keys_filtered p q [] all = refl
keys_filtered p q (e ∷ es) all = grind (arith, keys_filtered p q es all.1, keys_of)

module _ {K : Type 0} (cmp : K → K → Ordering) (o : IsTotalOrder cmp) where
  any_keys : (k : K) (es : List (K × Entry)) → list_any (is_at (cmp k)) (keys_of es) ≡ is_some (lookup (is_at (cmp k)) es)
  unfolding keys_of
  any_keys k [] = refl
  any_keys k (e ∷ es) = grind (arith, any_keys k es, keys_of, here)

  above : (x : K) (es : List (K × Entry)) → AllByRecursion (λ d. cmp x d.0 ≡ Less) es → AllByRecursion (λ d. cmp x d ≡ Less) (keys_of es)
  unfolding keys_of
  above x [] all = tt
  above x (e ∷ es) all = (all.0, above x es all.1)

  sorted_keys : (es : List (K × Entry)) → IsOrdered cmp es → IsSorted cmp o (keys_of es)
  unfolding keys_of
  sorted_keys [] ordered = tt
  sorted_keys (e ∷ es) ordered = (above e.0 es ordered.0, sorted_keys es ordered.1)

  -- each entry is found at its key
  skipped : (e : K × Entry) (es ds : List (K × Entry)) → AllByRecursion (λ d. cmp e.0 d.0 ≡ Less) ds → AllByRecursion (λ d. lookup (is_at (cmp d.0)) es ≡ Some d.1) ds
      → AllByRecursion (λ d. lookup (is_at (cmp d.0)) (e ∷ es) ≡ Some d.1) ds
  skipped e es [] less all = tt
  skipped e es (d ∷ ds) less all = (rw (less_turned cmp o e.0 d.0 less.0) all.0, skipped e es ds less.1 all.1)

  found : (es : List (K × Entry)) → IsOrdered cmp es → AllByRecursion (λ e. lookup (is_at (cmp e.0)) es ≡ Some e.1) es
  found [] ordered = tt
  found (e ∷ es) ordered = (rw (same_itself o e.0) refl, skipped e es es ordered.0 (found es ordered.1))

  agreeing : (slots : SlotMap K) (p : K → Bool) (q : K × Entry → Bool) → ((key : K) (e : Entry) → entry_at cmp slots key ≡ Some e → q (key, e) ≡ p key)
      → (ds : List (K × Entry)) → AllByRecursion (λ e. lookup (is_at (cmp e.0)) slots.entries ≡ Some e.1) ds → AllByRecursion (λ e. q e ≡ p e.0) ds
  agreeing slots p q agrees [] all = tt
  agreeing slots p q agrees (d ∷ ds) all = (agrees d.0 d.1 all.0, agreeing slots p q agrees ds all.1)

module _ {K : Type 0} {cmp : K → K → Ordering} {same before : K → K → Bool} {keys : List K} {of_kind is_open : K → Bool} {slots : SlotMap K}
    (h : Held cmp same before keys of_kind is_open slots) (sorted : IsSorted cmp h.order keys) where
  is_one : (a b : K) → is_at (cmp a) b ≡ true → a ≡ b
  is_one a b e = h.same_is a b (sym (h.tells a b) ∙ e)

  itself : (a : K) → same a a ≡ true
  itself a = sym (h.tells a a) ∙ same_itself h.order a

  to_open : (k : K) → list_any (is_at (cmp k)) (keys_of slots.entries) ≡ true → list_any (is_at (cmp k)) (filter is_open keys) ≡ true
  to_open k e = grind (arith, and_parts, any_keys, any_tells, among_filtered, itself)

  open_there : (k : K) (ks : List K) → AllByRecursion (λ key. of_kind key ≡ true) ks → list_any (is_at (cmp k)) (filter is_open ks) ≡ true → (of_kind k && is_open k) ≡ true
  open_there k [] all e = absurd (false≢true e)
  open_there k (x ∷ ks) all e = by (is_open x) refl (is_at (cmp k) x) refl e (λ rest. open_there k ks all.1 rest)
    where
      by : (a : Bool) → is_open x ≡ a → (b : Bool) → is_at (cmp k) x ≡ b → list_any (is_at (cmp k)) (if a then x ∷ filter is_open ks else filter is_open ks) ≡ true
          → (list_any (is_at (cmp k)) (filter is_open ks) ≡ true → (of_kind k && is_open k) ≡ true) → (of_kind k && is_open k) ≡ true
      by a ea b eb e more = grind (arith, is_one)

  from_open : (k : K) → list_any (is_at (cmp k)) (filter is_open keys) ≡ true → list_any (is_at (cmp k)) (keys_of slots.entries) ≡ true
  from_open k e = any_keys cmp h.order k slots.entries ∙ h.holds k ∙ open_there k keys h.all e

  pub listed : (p : K → Bool) (q : K × Entry → Bool) → ((key : K) (e : Entry) → entry_at cmp slots key ≡ Some e → q (key, e) ≡ p key)
      → map (λ e. e.0) (filter q slots.entries) ≡ filter p (filter is_open keys)
  unfolding keys_of
  listed p q agrees =
      keys_filtered p q slots.entries (agreeing cmp h.order slots p q agrees slots.entries (found cmp h.order slots.entries h.ordered))
      ∙ ap (filter p)
      (one_list cmp h.order is_one (keys_of slots.entries) (filter is_open keys) (sorted_keys cmp h.order slots.entries h.ordered) (sorted_filtered cmp h.order is_open keys sorted)
      to_open from_open)

  -- those that end by a test, as the endings list them
  pub ended : (is_meant goes : K → Bool) (q : K × Entry → Bool) → ((key : K) (e : Entry) → entry_at cmp slots key ≡ Some e → q (key, e) ≡ (is_meant key && goes key))
      → map (λ e. e.0) (filter q slots.entries) ≡ filter (λ key. is_meant key && (is_open key && goes key)) keys
  ended is_meant goes q agrees = listed (λ key. is_meant key && goes key) q agrees ∙ filter_twice (λ key. is_meant key && goes key) is_open keys ∙ turned keys
    where
      turn : (a b c : Bool) → ((a && b) && c) ≡ (a && (c && b))
      turn a b c = grind arith

      turned : (ks : List K) → filter (λ j. (is_meant j && goes j) && is_open j) ks ≡ filter (λ key. is_meant key && (is_open key && goes key)) ks
      turned [] = refl
      turned (k ∷ ks) = rw (turn (is_meant k) (goes k) (is_open k), turned ks) refl
