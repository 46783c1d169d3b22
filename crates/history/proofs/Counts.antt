-- Open keys and the places of a map.
use Rattle.std.proofs.Common.{◌≡◌, ℕ, suc, ◌≤◌, Bool, true, false, ◌&&◌, ◌||◌, not, List, [], ◌∷◌, length, refl, sym, ap, subst, ◌∙◌, ◌==◌, nat_lt, arith, is_some}
use Rattle.std.specs.Prelude.{filter, if◌then◌else◌}
use Rattle.std.specs.List.{AllByRecursion, IsDistinct, list_any}
use Rattle.std.specs.Cmp.{IsTotalOrder}
use Rattle.std.specs.Ordering.{eq_by_cmp}
use Rattle.std.specs.BTreeMap.{is_at}
use Rattle.std.specs.declared.cmp.Ordering.{Ordering}
use Rattle.std.proofs.lemmas.Bool.{cases_Bool, eqb-true, eqb-false, and_parts, lt-ltb, le-ltb, or_parts}
use Rattle.slot_views.specs.Slots.{SlotMap, IsOrdered, entry_at, is_full}
use Rattle.slot_views.proofs.Traces.{counted_once, as_many}
use Rattle.slot_views.proofs.Tied.{same_turned}
use Rattle.history.specs.Opens.{inserted, with_key}

pub all_inserted : {K : Type 0} (P : K → Type 0) (before : K → K → Bool) (k : K) (ks : List K) → P k → AllByRecursion P ks → AllByRecursion P (inserted before k ks)
all_inserted P before k [] one all = (one, tt)
all_inserted P before k (x ∷ ks) one all = grind (arith, all_inserted P before k ks one all.1)

pub all_placed : {K : Type 0} (P : K → Type 0) (same before : K → K → Bool) (k : K) (ks : List K) → P k → AllByRecursion P ks → AllByRecursion P (with_key same before k ks)
all_placed P same before k ks one all = grind (arith, all_inserted)

-- a key that passes is among those that it was put to, or is it
pub any_inserted : {K : Type 0} (p : K → Bool) (before : K → K → Bool) (k : K) (ks : List K) → list_any p (inserted before k ks) ≡ (p k || list_any p ks)
any_inserted p before k [] = refl
any_inserted p before k (x ∷ ks) = grind (arith, any_inserted p before k ks)

module _ {K : Type 0} {cmp : K → K → Ordering} (o : IsTotalOrder cmp) (same before : K → K → Bool) (tells : (a b : K) → is_at (cmp a) b ≡ same a b) where
  pub any_tells : (k : K) (ks : List K) → list_any (is_at (cmp k)) ks ≡ list_any (same k) ks
  any_tells k [] = refl
  any_tells k (x ∷ ks) = rw (tells k x, any_tells k ks) refl

  others : (k : K) (ks : List K) → list_any (is_at (cmp k)) ks ≡ false → AllByRecursion (λ y. eq_by_cmp cmp k y ≡ false) ks
  others k [] none = tt
  others k (x ∷ ks) none = let parts = or_parts (is_at (cmp k) x) (list_any (is_at (cmp k)) ks) none in (parts.0, others k ks parts.1)

  distinct_inserted : (k : K) (ks : List K) → list_any (is_at (cmp k)) ks ≡ false → IsDistinct (eq_by_cmp cmp) ks → IsDistinct (eq_by_cmp cmp) (inserted before k ks)
  unfolding IsDistinct
  distinct_inserted k [] none distinct = (tt, tt)
  distinct_inserted k (x ∷ ks) none distinct =
      let parts = or_parts (is_at (cmp k) x) (list_any (is_at (cmp k)) ks) none in
      by (before k x) parts.0 (distinct_inserted k ks parts.1 distinct.1)
    where
      by : (b : Bool) → is_at (cmp k) x ≡ false → IsDistinct (eq_by_cmp cmp) (inserted before k ks) → IsDistinct (eq_by_cmp cmp) (if b then k ∷ x ∷ ks else x ∷ inserted before k ks)
      by true apart rest = (others k (x ∷ ks) none, distinct)
      by false apart rest = (all_inserted (λ y. eq_by_cmp cmp x y ≡ false) before k ks (same_turned o x k ∙ apart) distinct.0, rest)

  pub distinct_placed : (k : K) (ks : List K) → IsDistinct (eq_by_cmp cmp) ks → IsDistinct (eq_by_cmp cmp) (with_key same before k ks)
  distinct_placed k ks distinct = grind (arith, distinct_inserted, any_tells)

pub filter_twice : {K : Type 0} (p q : K → Bool) (ks : List K) → filter p (filter q ks) ≡ filter (λ j. p j && q j) ks
filter_twice p q [] = refl
filter_twice p q (k ∷ ks) = grind (arith, filter_twice p q ks)

-- tests that agree on all of a list
agreed : {K : Type 0} (P : K → Type 0) (p q : K → Bool) → ((j : K) → P j → p j ≡ q j) → (ks : List K) → AllByRecursion P ks → filter p ks ≡ filter q ks
agreed P p q same [] all = refl
agreed P p q same (k ∷ ks) all = rw (same k all.0, agreed P p q same ks all.1) refl

-- a key put to others that another isn't among
module _ {K : Type 0} (same before : K → K → Bool) (same_is : (a b : K) → same a b ≡ true → a ≡ b) where
  pub any_placed : (key one : K) (ks : List K) → list_any (same key) (with_key same before one ks) ≡ false → (same key one ≡ false) × (list_any (same key) ks ≡ false)
  any_placed key one ks = by (list_any (same one) ks) refl
    where
      by : (b : Bool) → list_any (same one) ks ≡ b → list_any (same key) (if b then ks else inserted before one ks) ≡ false → (same key one ≡ false) × (list_any (same key) ks ≡ false)
      by true e none = (apart (same key one) refl, none)
        where
          apart : (b : Bool) → same key one ≡ b → same key one ≡ false
          apart true is = let there : list_any (same key) ks ≡ true = subst (λ (x : K). list_any (same x) ks ≡ true) (sym (same_is key one is)) e in cc
          apart false is = is
      by false e none = or_parts (same key one) (list_any (same key) ks) (sym (any_inserted (same key) before one ks) ∙ none)

-- the keys of a kind, each once; a map holds those of them that are open, and no others
pub record Held {K : Type 0} (cmp : K → K → Ordering) (same before : K → K → Bool) (keys : List K) (of_kind is_open : K → Bool) (slots : SlotMap K) : Type 0 where
  pub order : IsTotalOrder cmp
  pub tells : (a b : K) → is_at (cmp a) b ≡ same a b
  pub same_is : (a b : K) → same a b ≡ true → a ≡ b
  pub turn : (a b : K) → same a b ≡ same b a
  pub ordered : IsOrdered cmp slots.entries
  pub within : length slots.entries ≤ slots.limit
  pub holds : (key : K) → is_some (entry_at cmp slots key) ≡ (of_kind key && is_open key)
  pub distinct : IsDistinct (eq_by_cmp cmp) keys
  pub all : AllByRecursion (λ key. of_kind key ≡ true) keys
  pub among : (key : K) → of_kind key ≡ true → is_open key ≡ true → list_any (same key) keys ≡ true

module _ {K : Type 0} {cmp : K → K → Ordering} {same before : K → K → Bool} {keys : List K} {of_kind is_open : K → Bool} {slots : SlotMap K}
    (h : Held cmp same before keys of_kind is_open slots) where
  there : (key : K) → is_some (entry_at cmp slots key) ≡ true → list_any (is_at (cmp key)) keys ≡ true
  there key is = grind (arith, and_parts, any_tells)

  open_is : (key : K) → of_kind key ≡ true → is_some (entry_at cmp slots key) ≡ is_open key
  open_is key kind = h.holds key ∙ ap (λ b. b && is_open key) kind

  pub counted : length slots.entries ≡ length (filter is_open keys)
  counted =
      as_many h.order slots.entries keys h.ordered h.distinct there
      ∙ ap length (agreed (λ key. of_kind key ≡ true) (λ j. is_some (entry_at cmp slots j)) is_open open_is keys h.all)

  room_count : (key : K) → length (filter (λ other. not (same other key)) (filter is_open keys)) ≡ length (filter (λ j. not (same j key) && is_open j) keys)
  room_count key = ap length (filter_twice (λ other. not (same other key)) is_open keys)

  -- where the key is open, the others are one fewer
  fewer : (key : K) → is_some (entry_at cmp slots key) ≡ true → length (filter is_open keys) ≡ suc (length (filter (λ j. not (same j key) && is_open j) keys))
  fewer key is = counted_once h.order key is_open (λ j. not (same j key) && is_open j) more apart keys h.distinct (there key is)
    where
      opens : is_open key ≡ true
      opens = (and_parts (of_kind key) (is_open key) (sym (h.holds key) ∙ is)).1

      turned : (j : K) → is_at (cmp key) j ≡ same j key
      turned j = h.tells key j ∙ h.turn key j

      more_by : (j : K) (b : Bool) → same j key ≡ b → is_open j ≡ (b || (not b && is_open j))
      more_by j b e = grind arith

      more : (j : K) → is_open j ≡ (is_at (cmp key) j || (not (same j key) && is_open j))
      more j = rw (turned j) (more_by j (same j key) refl)

      apart : (j : K) → is_at (cmp key) j ≡ true → (not (same j key) && is_open j) ≡ false
      apart j same_key = rw (sym (turned j) ∙ same_key) refl

  -- where it isn't, they are all
  all_of : (key : K) → is_some (entry_at cmp slots key) ≡ false → length (filter (λ j. not (same j key) && is_open j) keys) ≡ length (filter is_open keys)
  all_of key absent = grind (arith, agreed)

  below : (n limit : ℕ) → suc n ≤ limit → nat_lt n limit ≡ true
  below n limit le = lt-ltb n limit (omega (arith, le))

  just : (n limit : ℕ) → n ≤ limit → nat_lt n limit ≡ not (n == limit)
  just n limit le = grind (arith, cases_Bool, le-ltb, eqb-true, lt-ltb, eqb-false)

  pub room : (key : K) → nat_lt (length (filter (λ other. not (same other key)) (filter is_open keys))) slots.limit ≡ not (is_full cmp slots key)
  room key = grind (arith, below, room_count, fewer, counted, all_of, just)
