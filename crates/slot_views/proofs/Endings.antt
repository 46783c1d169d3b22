-- The first entry that passes a test ends, and then the next one.
use Rattle.std.proofs.Common.{◌≡◌, ◌≤◌, arith, length, if◌then◌else◌, not, Bool, true, false, List, [], ◌∷◌, Some, None, refl, sym, ap, subst}
use Rattle.std.specs.List.{AllByRecursion, find, filter}
use Rattle.std.specs.Cmp.{IsTotalOrder}
use Rattle.std.specs.declared.cmp.Ordering.{Ordering}
use Rattle.std.specs.Map.{lookup, remove_entry}
use Rattle.std.specs.BTreeMap.{is_at}
use Rattle.slot_views.specs.Slots.{Entry, SlotMap, IsOrdered, IsMap, Changes, with_entries, released, without, without_first}
use Rattle.slot_views.specs.Laws.{TellsApart, EndsTheFirst}
use Rattle.slot_views.proofs.Tied.{same_itself}
use Rattle.slot_views.proofs.Keeping.{changes_of, released_keeps, released_here}

-- what passes a test ends one by one
module _ {X : Type 0} (p : X → Bool) where
  pub all_stay : (xs : List X) → find p xs ≡ None → filter (λ x. not (p x)) xs ≡ xs
  all_stay [] none = refl
  all_stay (x ∷ xs) none = by (p x) refl (λ later. all_stay xs later)
    where
      by : (b : Bool) → p x ≡ b → (find p xs ≡ None → filter (λ x. not (p x)) xs ≡ xs) → filter (λ x. not (p x)) (x ∷ xs) ≡ x ∷ xs
      by true eb rest = let found : Some x ≡ None = rw eb at none in cc
      by false eb rest = let later : find p xs ≡ None = rw eb at none in rw eb (ap {B = List X} (λ ys. x ∷ ys) (rest later))

  pub one_fewer : (xs : List X) → filter (λ x. not (p x)) (without_first p xs) ≡ filter (λ x. not (p x)) xs
  one_fewer [] = refl
  one_fewer (x ∷ xs) = grind (arith, one_fewer xs)

-- two tests that agree on all elements find and take out the same
module _ {X : Type 0} (p q : X → Bool) where
  pub found_same : (xs : List X) → AllByRecursion (λ x. p x ≡ q x) xs → find p xs ≡ find q xs
  found_same [] all = refl
  found_same (x ∷ xs) all = rw (all.0, found_same xs all.1) refl

  pub without_same : (xs : List X) → AllByRecursion (λ x. p x ≡ q x) xs → without_first p xs ≡ without_first q xs
  without_same [] all = refl
  without_same (x ∷ xs) all = rw (all.0, without_same xs all.1) refl

-- what holds of all elements holds of those that are left
pub all_without : {X : Type 0} (P : X → Type 0) (p : X → Bool) (xs : List X) → AllByRecursion P xs → AllByRecursion P (without_first p xs)
all_without P p [] all = tt
all_without P p (x ∷ xs) all = grind (arith, all_without P p xs all.1)

module _ {K : Type 0} {cmp : K → K → Ordering} (o : IsTotalOrder cmp) where
  -- the first that passes a test is at its own key, and nothing else is
  found_all : (P : K × Entry → Type 0) (p : K × Entry → Bool) (es : List (K × Entry)) (e : K × Entry) → AllByRecursion P es → find p es ≡ Some e → P e
  found_all P p [] e all is = cc
  found_all P p (d ∷ es) e all is = by_test (p d) all is (λ rest more. found_all P p es e rest more)
    where
      by_test : (b : Bool) → AllByRecursion P (d ∷ es) → (if b then Some d else find p es) ≡ Some e → (AllByRecursion P es → find p es ≡ Some e → P e) → P e
      by_test b all is rest = grind arith

  abbrev pub Found : (K × Entry → Bool) → List (K × Entry) → K × Entry → Type 0
  Found p es e = (p e ≡ true) × (lookup (is_at (cmp e.0)) es ≡ Some e.1) × (without_first p es ≡ remove_entry (is_at (cmp e.0)) es)

  pub found : (p : K × Entry → Bool) (es : List (K × Entry)) (e : K × Entry) → IsOrdered cmp es → find p es ≡ Some e → Found p es e
  found p [] e ordered is = cc
  found p (d ∷ es) e ordered is = by_test (p d) refl is (λ more. found p es e ordered.1 more)
    where
      by_test : (b : Bool) → p d ≡ b → (if b then Some d else find p es) ≡ Some e → (find p es ≡ Some e → Found p es e) → Found p (d ∷ es) e
      by_test b here is rest = grind (arith, same_itself, found_all)

  pub none_found : (p : K × Entry → Bool) (es : List (K × Entry)) → find p es ≡ None → without_first p es ≡ es
  none_found p [] is = refl
  none_found p (d ∷ es) is = by_test (p d) refl is (λ more. none_found p es more)
    where
      by_test : (b : Bool) → p d ≡ b → (if b then Some d else find p es) ≡ None → (find p es ≡ None → without_first p es ≡ es) → without_first p (d ∷ es) ≡ d ∷ es
      by_test b here is rest = grind arith

  none_passes : (k : K) (w : Entry) → ((x : K) → is_at (cmp k) x ≡ true → x ≡ k) → (p : K × Entry → Bool) (es : List (K × Entry)) → find p es ≡ None → lookup (is_at (cmp k)) es ≡ Some w → p (k, w) ≡ false
  none_passes k w same p [] is held = cc
  none_passes k w same p (d ∷ es) is held = by_test (p d) (is_at (cmp k) d.0) refl refl is held (λ more rest. none_passes k w same p es more rest)
    where
      by_test : (b c : Bool) → p d ≡ b → is_at (cmp k) d.0 ≡ c → (if b then Some d else find p es) ≡ None → (if c then Some d.1 else lookup (is_at (cmp k)) es) ≡ Some w
          → (find p es ≡ None → lookup (is_at (cmp k)) es ≡ Some w → p (k, w) ≡ false) → p (k, w) ≡ false
      by_test b c here it is held rest = grind arith

  ordered_without : (p : K × Entry → Bool) (es : List (K × Entry)) → IsOrdered cmp es → IsOrdered cmp (without_first p es)
  ordered_without p [] ordered = tt
  ordered_without p (e ∷ es) ordered = grind (arith, ordered_without p es ordered.1, all_without)

  fewer_without : (p : K × Entry → Bool) (es : List (K × Entry)) → length (without_first p es) ≤ length es
  fewer_without p [] = omega arith
  fewer_without p (e ∷ es) = grind (arith, fewer_without p es)

  pub map_without : (s : SlotMap K) (p : K × Entry → Bool) → IsMap cmp s → IsMap cmp (without s p)
  map_without s p map = grind (arith, ordered_without, fewer_without)

  releases : (s : SlotMap K) (k : K) → IsMap cmp s → Changes cmp s (released cmp s k) k None
  releases s k map = changes_of s (released cmp s k) k None map (released_keeps o s k map.ordered) (released_here o s k map.ordered)

  pub ends_the_first : TellsApart cmp → EndsTheFirst cmp
  ends_the_first apart = record {
    ended = λ s p e map is.
        let f = found p s.entries e map.ordered is in
        (f.0, f.1, subst (λ t. Changes cmp s t e.0 None) (sym (ap (with_entries s) f.2)) (releases s e.0 map));
    none = λ s p is. (ap (with_entries s) (none_found p s.entries is), λ k e held. none_passes k e (apart.same k) p s.entries is held);
    released = releases;
  }
