-- What is left of a map without the entries whose keys pass a test.
use Rattle.std.proofs.Common.{◌≡◌, ◌≤◌, Bool, true, false, ◌&&◌, not, List, [], ◌∷◌, ◌++◌, length, map, refl, sym, ap, ◌∙◌, arith}
use Rattle.std.specs.Prelude.{Option, None, filter, if◌then◌else◌}
use Rattle.std.specs.List.{flat_map}
use Rattle.std.specs.Cmp.{IsTotalOrder}
use Rattle.std.specs.Map.{lookup}
use Rattle.std.specs.BTreeMap.{is_at}
use Rattle.std.specs.declared.cmp.Ordering.{Ordering}
use Rattle.slot_views.specs.Slots.{Entry, SlotMap, IsMap, entry_at, remaining}
use Rattle.slot_views.proofs.Tied.{ordered_filtered}
use Rattle.gate_events.specs.Emit.{Emit}

-- ---- lists

filtered_fewer : {X : Type 0} (p : X → Bool) (xs : List X) → length (filter p xs) ≤ length xs
filtered_fewer p [] = omega arith
filtered_fewer p (x ∷ xs) = by (p x) (filtered_fewer p xs)
  where
    by : (b : Bool) → length (filter p xs) ≤ length xs → length (if b then x ∷ filter p xs else filter p xs) ≤ length (x ∷ xs)
    by true fewer = omega (arith, fewer)
    by false fewer = omega (arith, fewer)

-- what passes two tests
pub filtered_twice : {X : Type 0} (p q r : X → Bool) → ((x : X) → r x ≡ (q x && p x)) → (xs : List X) → filter p (filter q xs) ≡ filter r xs
filtered_twice {X} p q r both [] = refl
filtered_twice {X} p q r both (x ∷ xs) = by (q x) refl (p x) refl (filtered_twice p q r both xs)
  where
    by : (a : Bool) → q x ≡ a → (b : Bool) → p x ≡ b → filter p (filter q xs) ≡ filter r xs → filter p (filter q (x ∷ xs)) ≡ filter r (x ∷ xs)
    by true ea true eb rest = rw (both x, ea, eb) (ap (λ (ys : List X). x ∷ ys) rest)
    by true ea false eb rest = rw (both x, ea, eb) rest
    by false ea b eb rest = rw (both x, ea) rest

pub filtered_same : {X : Type 0} (p q : X → Bool) → ((x : X) → p x ≡ q x) → (xs : List X) → filter p xs ≡ filter q xs
filtered_same p q same [] = refl
filtered_same p q same (x ∷ xs) = rw (same x, filtered_same p q same xs) refl

pub filtered_all : {X : Type 0} (xs : List X) → filter (λ x. not false) xs ≡ xs
filtered_all [] = refl
filtered_all (x ∷ xs) = ap (λ (ys : List _). x ∷ ys) (filtered_all xs)

-- what is told of entries by their keys is told of the keys
pub told_of_keys : {K : Type 0} (f : K → List Emit) (es : List (K × Entry)) → flat_map (λ e. f e.0) es ≡ flat_map f (map (λ e. e.0) es)
told_of_keys f [] = refl
told_of_keys f (e ∷ es) = ap (λ (x : List Emit). f e.0 ++ x) (told_of_keys f es)

-- ---- maps

module _ {K : Type 0} {cmp : K → K → Ordering} (o : IsTotalOrder cmp) where
  pub remaining_map : (q : K × Entry → Bool) (s : SlotMap K) → IsMap cmp s → IsMap cmp (remaining q s)
  remaining_map q s map = record {
    ordered = ordered_filtered o (λ e. not (q e)) s.entries map.ordered;
    within = let fewer = filtered_fewer (λ e. not (q e)) s.entries in omega (arith, fewer, map.within);
  }

  -- the entries whose keys pass a test are gone, and every other is there
  module _ (same : (a b : K) → is_at (cmp a) b ≡ true → a ≡ b) where
    either : (o : Option Entry) (b : Bool) → (if b then o else o) ≡ o
    either o true = refl
    either o false = refl

    remaining_by : (p : K → Bool) (k : K) (es : List (K × Entry))
        → lookup (is_at (cmp k)) (filter (λ e. not (p e.0)) es) ≡ (if p k then None else lookup (is_at (cmp k)) es)
    remaining_by p k [] = sym (either None (p k))
    remaining_by p k (e ∷ es) = by (p e.0) refl (is_at (cmp k) e.0) refl (remaining_by p k es)
      where
        by : (b : Bool) → p e.0 ≡ b → (a : Bool) → is_at (cmp k) e.0 ≡ a
            → lookup (is_at (cmp k)) (filter (λ e. not (p e.0)) es) ≡ (if p k then None else lookup (is_at (cmp k)) es)
            → lookup (is_at (cmp k)) (filter (λ e. not (p e.0)) (e ∷ es)) ≡ (if p k then None else lookup (is_at (cmp k)) (e ∷ es))
        by true eb true ea rest = let gone : p k ≡ true = ap p (same k e.0 ea) ∙ eb in rw (eb, gone) (rw gone at rest)
        by false eb true ea rest = let stays : p k ≡ false = ap p (same k e.0 ea) ∙ eb in rw (eb, ea, stays) refl
        by true eb false ea rest = rw (eb, ea) rest
        by false eb false ea rest = rw (eb, ea) rest

    pub remaining_at : (p : K → Bool) (s : SlotMap K) (k : K) → entry_at cmp (remaining (λ e. p e.0) s) k ≡ (if p k then None else entry_at cmp s k)
    remaining_at p s k = remaining_by p k s.entries
