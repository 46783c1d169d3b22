-- No more is open after an entry than there is room for, where no more was open before it.
use Rattle.std.proofs.Common.{◌≡◌, ℕ, suc, ◌≤◌, Bool, true, false, not, List, [], ◌∷◌, length, refl, nat_lt, arith, is_some}
use Rattle.std.specs.Prelude.{Option, filter, if◌then◌else◌}
use Rattle.std.specs.List.{AllByRecursion, list_any}
use Rattle.std.proofs.lemmas.Bool.{false≢true, ltb-true}
use Rattle.slot_views.specs.Runs.{Rules, kept_at, open_at}
use Rattle.slot_views.specs.RunLaws.{fed}
use Rattle.history.proofs.Fewer.{Apart, apart_filtered, no_longer, among_filtered}

-- ---- a run that is open later was open before

module _ {X : Type 0} (r : Rules X) where
  pub kept_some : (o : Option (List X)) (n : ℕ) → is_some (kept_at r o n) ≡ true → is_some o ≡ true
  kept_some o n is = grind arith

  -- and one that a piece without room leaves was open before it
  pub fed_some : (o : Option (List X)) (x : X) → r.admitted x ≡ false → is_some (fed r o x) ≡ true → is_some o ≡ true
  fed_some o x full is = grind (arith, false≢true)

  pub cut_some : (b : Bool) (t : List X) (n : ℕ) → is_some (open_at r (if b then [] else t) n) ≡ true → is_some (open_at r t n) ≡ true
  cut_some b t n is = grind (arith, false≢true)

-- ---- keys that are open after an entry, and those that were before it

module _ {K : Type 0} (same : K → K → Bool) (same_is : (a b : K) → same a b ≡ true → a ≡ b) (turn : (a b : K) → same a b ≡ same b a) (itself : (a : K) → same a a ≡ true) where
  pub fewer : (Q : K → Type 0) (p : K → Bool) (ks ys : List K) → Apart same same_is turn itself ks → AllByRecursion Q ks → ((x : K) → Q x → p x ≡ true → list_any (same x) ys ≡ true)
      → length (filter p ks) ≤ length ys
  fewer Q p ks ys apart all there = no_longer same same_is turn itself (filter p ks) ys (apart_filtered same same_is turn itself p ks apart) (all_there ks all)
    where
      all_there : (xs : List K) → AllByRecursion Q xs → AllByRecursion (λ x. list_any (same x) ys ≡ true) (filter p xs)
      all_there [] none = tt
      all_there (x ∷ xs) some = grind (arith, all_there xs some.1)

  -- a key besides, where fewer than the limit are open of the others
  pub one_more : (Q : K → Type 0) (p : K → Bool) (ks bs : List K) (one : K) (limit : ℕ) → Apart same same_is turn itself ks → AllByRecursion Q ks
      → ((x : K) → Q x → same x one ≡ false → p x ≡ true → list_any (same x) bs ≡ true)
      → ((x : K) → Q x → same x one ≡ true → nat_lt (length (filter (λ o. not (same o one)) bs)) limit ≡ false → p x ≡ true → list_any (same x) bs ≡ true)
      → length bs ≤ limit → length (filter p ks) ≤ limit
  one_more Q p ks bs one limit apart all others own few = by (nat_lt (length (filter (λ o. not (same o one)) bs)) limit) refl
    where
      put : (x : K) → Q x → p x ≡ true → (b : Bool) → same x one ≡ b → list_any (same x) (one ∷ filter (λ o. not (same o one)) bs) ≡ true
      put x q is b e = grind (arith, among_filtered)

      there : nat_lt (length (filter (λ o. not (same o one)) bs)) limit ≡ false → (x : K) → Q x → p x ≡ true → (b : Bool) → same x one ≡ b → list_any (same x) bs ≡ true
      there full x q is b e = grind arith

      by : (b : Bool) → nat_lt (length (filter (λ o. not (same o one)) bs)) limit ≡ b → length (filter p ks) ≤ limit
      by true e =
          let more : length (filter p ks) ≤ suc (length (filter (λ o. not (same o one)) bs)) = fewer Q p ks (one ∷ filter (λ o. not (same o one)) bs) apart all (λ x q is. put x q is (same x one) refl) in
          omega (arith, more, ltb-true (length (filter (λ o. not (same o one)) bs)) limit e)
      by false e = omega (arith, fewer Q p ks bs apart all (λ x q is. there e x q is (same x one) refl), few)
