-- What all pieces make of the map is what each key's own pieces make of its entry.
use Rattle.std.proofs.Common.{◌≡◌, ℕ, suc, ◌≤◌, Bool, true, false, ◌&&◌, ◌||◌, not, nat_lt, List, [], ◌∷◌, length, refl, sym, ◌∙◌, ap, Option, None, is_some, arith}
use Rattle.std.proofs.lemmas.Bool.{eqb-true, eqb-false, lt-ltb, le-ltb, ltb-true, ltb-false, or_parts}
use Rattle.std.specs.List.{AllByRecursion, IsDistinct, filter, list_any}
use Rattle.std.specs.Cmp.{IsTotalOrder}
use Rattle.std.specs.Ordering.{eq_by_cmp}
use Rattle.std.specs.declared.cmp.Ordering.{Ordering}
use Rattle.std.specs.declared.cmp.Ordering.TheVariants.{Less}
use Rattle.std.specs.Map.{lookup, remove_entry}
use Rattle.std.specs.BTreeMap.{is_at}
use Rattle.slot_views.specs.Slots.{Entry, SlotMap, IsOrdered, entry_at, is_held, is_full, released, has_expired}
use Rattle.slot_views.specs.Traces.{Filling, left_at, unexpired, now_of, pieces_at, keys_in, open_keys, other_open_keys, IsNoted, entry_after, IsStep, map_after, Joins}
use Rattle.slot_views.proofs.Steps.{released_absent}
use Rattle.slot_views.proofs.Tied.{same_turned, same_as, same_itself, lookup_same, removed_at, unexpired_at, ordered_filtered, ordered_removed}

-- what passes two tests that agree
filtered_same : {X : Type 0} (p q : X → Bool) → ((x : X) → p x ≡ q x) → (xs : List X) → filter p xs ≡ filter q xs
filtered_same p q same [] = refl
filtered_same p q same (x ∷ xs) = rw (same x, filtered_same p q same xs) refl

filtered_none : {X : Type 0} (p : X → Bool) → ((x : X) → p x ≡ false) → (xs : List X) → filter p xs ≡ []
filtered_none p none [] = refl
filtered_none p none (x ∷ xs) = rw (none x) (filtered_none p none xs)

filtered_fewer : {X : Type 0} (p : X → Bool) (xs : List X) → length (filter p xs) ≤ length xs
filtered_fewer p [] = omega arith
filtered_fewer p (x ∷ xs) = grind (arith, filtered_fewer p xs)

module _ {K : Type 0} {cmp : K → K → Ordering} (o : IsTotalOrder cmp) where
  any_same : (k j : K) (ks : List K) → is_at (cmp k) j ≡ true → list_any (is_at (cmp k)) ks ≡ list_any (is_at (cmp j)) ks
  any_same k j [] same = refl
  any_same k j (x ∷ ks) same = rw (same_as o k j x same, any_same k j ks same) refl

  none_are : (k : K) (ks : List K) → list_any (is_at (cmp k)) ks ≡ false → AllByRecursion (λ y. eq_by_cmp cmp k y ≡ false) ks
  none_are k [] none = tt
  none_are k (x ∷ ks) none = let parts = or_parts (is_at (cmp k) x) (list_any (is_at (cmp k)) ks) none in (parts.0, none_are k ks parts.1)

  -- one more key is counted once
  module _ (x : K) (p q : K → Bool) (more : (j : K) → p j ≡ (is_at (cmp x) j || q j)) (apart : (j : K) → is_at (cmp x) j ≡ true → q j ≡ false) where
    counted_past : (y : K) (ks : List K) → is_at (cmp x) y ≡ true → AllByRecursion (λ z. eq_by_cmp cmp y z ≡ false) ks → filter p ks ≡ filter q ks
    counted_past y [] same all = refl
    counted_past y (k ∷ ks) same all = grind (arith, counted_past y ks same all.1, same_as)

    pub counted_once : (ks : List K) → IsDistinct (eq_by_cmp cmp) ks → list_any (is_at (cmp x)) ks ≡ true → length (filter p ks) ≡ suc (length (filter q ks))
    unfolding IsDistinct
    counted_once [] distinct there = cc
    counted_once (k ∷ ks) distinct there = by (is_at (cmp x) k) (q k) refl refl (λ later. counted_once ks distinct.1 later)
      where
        by : (a b : Bool) → is_at (cmp x) k ≡ a → q k ≡ b → (list_any (is_at (cmp x)) ks ≡ true → length (filter p ks) ≡ suc (length (filter q ks))) → length (filter p (k ∷ ks)) ≡ suc (length (filter q (k ∷ ks)))
        by true b ea eb rest =
            let first : p k ≡ true = more k ∙ ap (λ c. c || q k) ea in
            rw (first, apart k ea, counted_past k ks ea distinct.0) refl
        by false true ea eb rest = grind arith
        by false false ea eb rest = grind arith

  absent_after : (k : K) (es : List (K × Entry)) (e : K × Entry) → IsOrdered cmp (e ∷ es) → is_at (cmp e.0) k ≡ true → is_some (lookup (is_at (cmp k)) es) ≡ false
  absent_after k es e ordered same =
      ap is_some (sym (lookup_same o e.0 k es same) ∙ none_of e.0 es ordered.0)
    where
      none_of : (x : K) (ds : List (K × Entry)) → AllByRecursion (λ d. cmp x d.0 ≡ Less) ds → lookup (is_at (cmp x)) ds ≡ None
      none_of x [] all = refl
      none_of x (d ∷ ds) all = rw all.0 (none_of x ds all.1)

  abbrev none_held : List (K × Entry)
  none_held = []

  -- the entries are as many as the keys that are found
  pub as_many : (es : List (K × Entry)) (ks : List K) → IsOrdered cmp es → IsDistinct (eq_by_cmp cmp) ks → ((j : K) → is_some (lookup (is_at (cmp j)) es) ≡ true → list_any (is_at (cmp j)) ks ≡ true)
      → length es ≡ length (filter (λ j. is_some (lookup (is_at (cmp j)) es)) ks)
  as_many [] ks ordered distinct among = sym (ap length (filtered_none (λ (j : K). is_some (lookup (is_at (cmp j)) none_held)) (λ j. refl) ks))
  as_many (e ∷ es) ks ordered distinct among =
      let fewer : length es ≡ length (filter (λ (j : K). is_some (lookup (is_at (cmp j)) es)) ks) = as_many es ks ordered.1 distinct (λ j there. among j (found_later j there)) in
      ap suc fewer ∙ sym (counted_once e.0 (λ j. is_some (lookup (is_at (cmp j)) (e ∷ es))) (λ j. is_some (lookup (is_at (cmp j)) es)) found_more (λ j same. absent_after j es e ordered same) ks distinct (among e.0 here))
    where
      found_by : (j : K) (b : Bool) → is_at (cmp j) e.0 ≡ b → is_some (lookup (is_at (cmp j)) (e ∷ es)) ≡ (b || is_some (lookup (is_at (cmp j)) es))
      found_by j b eb = grind arith

      found_more : (j : K) → is_some (lookup (is_at (cmp j)) (e ∷ es)) ≡ (is_at (cmp e.0) j || is_some (lookup (is_at (cmp j)) es))
      found_more j = found_by j (is_at (cmp e.0) j) (same_turned o j e.0)

      later_by : (a b : Bool) → b ≡ true → (a || b) ≡ true
      later_by a b there = grind arith

      found_later : (j : K) → is_some (lookup (is_at (cmp j)) es) ≡ true → is_some (lookup (is_at (cmp j)) (e ∷ es)) ≡ true
      found_later j there = found_more j ∙ later_by (is_at (cmp e.0) j) _ there

      here : is_some (lookup (is_at (cmp e.0)) (e ∷ es)) ≡ true
      here = rw (same_itself o e.0) refl

  module _ {X : Type 0} where
    keys_distinct : (h : List (K × X)) → IsDistinct (eq_by_cmp cmp) (keys_in cmp h)
    unfolding keys_in IsDistinct
    keys_distinct [] = tt
    keys_distinct (n ∷ h) = by (list_any (is_at (cmp n.0)) (keys_in cmp h)) refl (keys_distinct h)
      where
        by : (b : Bool) → list_any (is_at (cmp n.0)) (keys_in cmp h) ≡ b → IsDistinct (eq_by_cmp cmp) (keys_in cmp h) → IsDistinct (eq_by_cmp cmp) (keys_in cmp (n ∷ h))
        by true eb rest = rw eb rest
        by false eb rest = rw eb (none_are n.0 (keys_in cmp h) eb, rest)

    -- a key that isn't among those in h has no pieces
    none_at : (k : K) (h : List (K × X)) → list_any (is_at (cmp k)) (keys_in cmp h) ≡ false → pieces_at cmp k h ≡ []
    unfolding keys_in pieces_at
    none_at k [] none = refl
    none_at k (n ∷ h) none = by (list_any (is_at (cmp n.0)) (keys_in cmp h)) (is_at (cmp k) n.0) refl refl (λ before. none_at k h before)
      where
        by : (a b : Bool) → list_any (is_at (cmp n.0)) (keys_in cmp h) ≡ a → is_at (cmp k) n.0 ≡ b → (list_any (is_at (cmp k)) (keys_in cmp h) ≡ false → pieces_at cmp k h ≡ []) → pieces_at cmp k (n ∷ h) ≡ []
        by a b ea eb rest = grind (arith, any_same, or_parts)

    pub all_at : (P : X → Type 0) (k : K) (h : List (K × X)) → AllByRecursion (λ n. P n.1) h → AllByRecursion P (pieces_at cmp k h)
    unfolding pieces_at
    all_at P k [] all = tt
    all_at P k (n ∷ h) all = grind (arith, all_at P k h all.1)

-- an entry that lasts until a later moment does so until an earlier one
left_twice : (e : Option Entry) (m n : ℕ) → m ≤ n → left_at (left_at e m) n ≡ left_at e n
left_twice e m n le = grind (arith, ltb-true, ltb-false)

-- there is room for a key exactly where fewer others are held than the limit
module _ {K : Type 0} (cmp : K → K → Ordering) (s : SlotMap K) (k : K) where
  removed_fewer : (es : List (K × Entry)) → is_some (lookup (is_at (cmp k)) es) ≡ true → suc (length (remove_entry (is_at (cmp k)) es)) ≡ length es
  removed_fewer [] held = cc
  removed_fewer (e ∷ es) held = by (is_at (cmp k) e.0) refl (λ later. removed_fewer es later)
    where
      by : (b : Bool) → is_at (cmp k) e.0 ≡ b → (is_some (lookup (is_at (cmp k)) es) ≡ true → suc (length (remove_entry (is_at (cmp k)) es)) ≡ length es) → suc (length (remove_entry (is_at (cmp k)) (e ∷ es))) ≡ length (e ∷ es)
      by b eb rest = grind arith

  pub released_fewer : is_held cmp s k ≡ true → suc (length (released cmp s k).entries) ≡ length s.entries
  released_fewer held = removed_fewer s.entries held

  pub room_is : 1 ≤ s.limit → length s.entries ≤ s.limit → not (is_full cmp s k) ≡ nat_lt (length (released cmp s k).entries) s.limit
  room_is some within = grind (arith, released_fewer, lt-ltb, released_absent, eqb-true, le-ltb, eqb-false)

module _ {K X : Type 0} {cmp : K → K → Ordering} (o : IsTotalOrder cmp) (f : Filling X) (after : SlotMap K → K → X → SlotMap K) (step : IsStep cmp f after)
    (P : X → Type 0) (is_open : List X → ℕ → Bool) (agrees : (p : List X) (m : ℕ) → AllByRecursion P p → is_open p m ≡ is_some (left_at (entry_after f p) m)) (limit : ℕ) (some : 1 ≤ limit) where
  abbrev pub at_now : List (K × X) → ℕ → SlotMap K
  at_now h m = unexpired m (map_after cmp f after limit h)

  ordered_after : (h : List (K × X)) → IsOrdered cmp (map_after cmp f after limit h).entries
  unfolding map_after
  ordered_after [] = tt
  ordered_after (n ∷ h) = step.ordered (at_now h (f.moment n.1)) n.0 n.1 (ordered_filtered o (λ e. not (has_expired (f.moment n.1) e)) (map_after cmp f after limit h).entries (ordered_after h))

  ordered_now : (h : List (K × X)) (m : ℕ) → IsOrdered cmp (at_now h m).entries
  ordered_now h m = ordered_filtered o (λ e. not (has_expired m e)) (map_after cmp f after limit h).entries (ordered_after h)

  limit_after : (h : List (K × X)) → (map_after cmp f after limit h).limit ≡ limit
  unfolding map_after
  limit_after [] = refl
  limit_after (n ∷ h) = step.limit (at_now h (f.moment n.1)) n.0 n.1 (ordered_now h (f.moment n.1)) ∙ limit_after h

  within_after : (h : List (K × X)) → length (map_after cmp f after limit h).entries ≤ limit
  unfolding map_after
  within_after [] = omega arith
  within_after (n ∷ h) = grind (arith, within_after h, filtered_fewer, limit_after, ordered_now)

  within_now : (h : List (K × X)) (m : ℕ) → length (at_now h m).entries ≤ (at_now h m).limit
  within_now h m = grind (arith, within_after, filtered_fewer, limit_after)

  -- the entries at a moment are what the keys' own pieces leave
  abbrev Stands : List (K × X) → ℕ → Type 0
  Stands h m = (k : K) → entry_at cmp (at_now h m) k ≡ left_at (entry_after f (pieces_at cmp k h)) m

  module _ (h : List (K × X)) (fits : AllByRecursion (λ n. P n.1) h) (m : ℕ) (stands : Stands h m) where
    open_is : (j : K) → is_some (entry_at cmp (at_now h m) j) ≡ is_open (pieces_at cmp j h) m
    open_is j = ap is_some (stands j) ∙ sym (agrees (pieces_at cmp j h) m (all_at o P j h fits))

    among_by : (j : K) (b : Bool) → list_any (is_at (cmp j)) (keys_in cmp h) ≡ b → is_some (entry_at cmp (at_now h m) j) ≡ true → list_any (is_at (cmp j)) (keys_in cmp h) ≡ true
    unfolding entry_after
    among_by j b eb there = grind (arith, none_at)

    among : (j : K) → is_some (entry_at cmp (at_now h m) j) ≡ true → list_any (is_at (cmp j)) (keys_in cmp h) ≡ true
    among j there = among_by j _ refl there

    count_is : length (at_now h m).entries ≡ length (open_keys cmp (λ p. is_open p m) h)
    count_is =
        as_many o (at_now h m).entries (keys_in cmp h) (ordered_now h m) (keys_distinct o h) among
        ∙ ap length (filtered_same (λ j. is_some (entry_at cmp (at_now h m) j)) (λ j. is_open (pieces_at cmp j h) m) open_is (keys_in cmp h))

    module _ (k : K) where
      other_by : (j : K) (b : Bool) → is_at (cmp k) j ≡ b → is_some (lookup (is_at (cmp j)) (released cmp (at_now h m) k).entries) ≡ (not b && is_open (pieces_at cmp j h) m)
      other_by j true eb = ap is_some (removed_at o k j (at_now h m).entries (ordered_now h m)) ∙ rw eb refl
      other_by j false eb = ap is_some (removed_at o k j (at_now h m).entries (ordered_now h m)) ∙ rw eb (open_is j)

      held_before : (j : K) (b : Bool) → is_at (cmp k) j ≡ b → is_some (lookup (is_at (cmp j)) (released cmp (at_now h m) k).entries) ≡ true → is_some (entry_at cmp (at_now h m) j) ≡ true
      held_before j true eb there = let gone : is_some (lookup (is_at (cmp j)) (released cmp (at_now h m) k).entries) ≡ false = other_by j true eb in cc
      held_before j false eb there = open_is j ∙ (sym (other_by j false eb) ∙ there)

      others_are : length (released cmp (at_now h m) k).entries ≡ length (other_open_keys cmp (λ p. is_open p m) k h)
      others_are =
          as_many o (released cmp (at_now h m) k).entries (keys_in cmp h) (ordered_removed o (is_at (cmp k)) (at_now h m).entries (ordered_now h m)) (keys_distinct o h) (λ j there. among j (held_before j _ refl there))
          ∙ ap length (filtered_same (λ j. is_some (lookup (is_at (cmp j)) (released cmp (at_now h m) k).entries)) (λ j. not (is_at (cmp k) j) && is_open (pieces_at cmp j h) m) (λ j. other_by j _ refl) (keys_in cmp h))

      room_as_noted : nat_lt (length (other_open_keys cmp (λ p. is_open p m) k h)) limit ≡ not (is_full cmp (at_now h m) k)
      room_as_noted =
          let room = room_is cmp (at_now h m) k (rw (limit_after h) some) (within_now h m) in
          ap (λ n. nat_lt n limit) (sym others_are) ∙ (ap (λ n. nat_lt (length (released cmp (at_now h m) k).entries) n) (sym (limit_after h)) ∙ sym room)

  -- one more piece
  module _ (n : K × X) (h : List (K × X)) (admitted : f.admitted n.1 ≡ not (is_full cmp (at_now h (f.moment n.1)) n.0)) (stands : Stands h (f.moment n.1)) where
    entry_by : (k : K) (b : Bool) → is_at (cmp k) n.0 ≡ b → (m : ℕ) → f.moment n.1 ≤ m → left_at (entry_at cmp (map_after cmp f after limit (n ∷ h)) k) m ≡ left_at (entry_after f (pieces_at cmp k (n ∷ h))) m
    unfolding map_after entry_after pieces_at
    entry_by k b eb m le = grind (arith, lookup_same, ordered_now, same_turned, left_twice)

  none_at_first : (m : ℕ) (k : K) → entry_at cmp (at_now [] m) k ≡ left_at (entry_after f (pieces_at cmp k [])) m
  unfolding map_after entry_after pieces_at
  none_at_first m k = refl

  stands_after : (h : List (K × X)) → AllByRecursion (λ n. P n.1) h → IsNoted cmp f.moment f.admitted is_open limit h → (m : ℕ) → now_of f.moment h ≤ m → Stands h m
  unfolding IsNoted
  stands_after [] fits noted m le k = none_at_first m k
  stands_after (n ∷ h) fits noted m le k =
      let before : Stands h (f.moment n.1) = λ j. stands_after h fits.1 noted.2 (f.moment n.1) noted.0 j in
      let room = room_as_noted h fits.1 (f.moment n.1) before n.0 in
      unexpired_at o m k (map_after cmp f after limit (n ∷ h)).entries (ordered_after (n ∷ h))
      ∙ entry_by n h (noted.1 ∙ room) before k _ refl m le

  -- each piece is noted as admitted exactly where there is room for its key
  pub noted_room : (n : K × X) (h : List (K × X)) → AllByRecursion (λ n. P n.1) (n ∷ h) → IsNoted cmp f.moment f.admitted is_open limit (n ∷ h) → f.admitted n.1 ≡ not (is_full cmp (at_now h (f.moment n.1)) n.0)
  unfolding IsNoted
  noted_room n h fits noted = noted.1 ∙ room_as_noted h fits.1 (f.moment n.1) (λ k. stands_after h fits.1 noted.2 (f.moment n.1) noted.0 k) n.0

  pub joined_before : (n : K × X) (h : List (K × X)) → AllByRecursion (λ n. P n.1) (n ∷ h) → IsNoted cmp f.moment f.admitted is_open limit (n ∷ h)
      → (k : K) → entry_at cmp (at_now h (f.moment n.1)) k ≡ left_at (entry_after f (pieces_at cmp k h)) (f.moment n.1)
  unfolding IsNoted
  joined_before n h fits noted k = stands_after h fits.1 noted.2 (f.moment n.1) noted.0 k

  pub joined : (h : List (K × X)) → AllByRecursion (λ n. P n.1) h → IsNoted cmp f.moment f.admitted is_open limit h → Joins cmp f after is_open limit h
  joined h fits noted = grind (arith, stands_after, count_is)
