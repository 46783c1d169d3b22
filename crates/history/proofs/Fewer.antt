-- A list of different things that are all among others is no longer.
use Rattle.std.proofs.Common.{◌≡◌, suc, ◌≤◌, Bool, true, false, ◌||◌, List, [], ◌∷◌, length, refl, arith}
use Rattle.std.specs.Prelude.{filter, if◌then◌else◌}
use Rattle.std.specs.List.{AllByRecursion, list_any}
use Rattle.std.proofs.lemmas.Bool.{false≢true, or_parts}
use Rattle.slot_views.specs.Slots.{without_first}
use Rattle.history.specs.Opens.{inserted, with_key}
use Rattle.history.proofs.Counts.{all_inserted}

module _ {K : Type 0} (same : K → K → Bool) (same_is : (a b : K) → same a b ≡ true → a ≡ b) (turn : (a b : K) → same a b ≡ same b a) (itself : (a : K) → same a a ≡ true) where
  -- no two of a list are the same
  abbrev pub Apart : List K → Type 0
  Apart [] = Unit {0}
  Apart (x ∷ xs) = AllByRecursion (λ y. same x y ≡ false) xs × Apart xs

  apart_all : (x : K) (xs : List K) → list_any (same x) xs ≡ false → AllByRecursion (λ y. same x y ≡ false) xs
  apart_all x [] none = tt
  apart_all x (y ∷ ys) none = let parts = or_parts (same x y) (list_any (same x) ys) none in (parts.0, apart_all x ys parts.1)

  apart_inserted : (before : K → K → Bool) (k : K) (ks : List K) → list_any (same k) ks ≡ false → Apart ks → Apart (inserted before k ks)
  apart_inserted before k [] none apart = (tt, tt)
  apart_inserted before k (x ∷ ks) none apart =
      let parts = or_parts (same k x) (list_any (same k) ks) none in
      by (before k x) parts.0 (apart_inserted before k ks parts.1 apart.1)
    where
      by : (b : Bool) → same k x ≡ false → Apart (inserted before k ks) → Apart (if b then k ∷ x ∷ ks else x ∷ inserted before k ks)
      by b e rest = grind (arith, apart_all, all_inserted)

  pub apart_placed : (before : K → K → Bool) (k : K) (ks : List K) → Apart ks → Apart (with_key same before k ks)
  apart_placed before k ks apart = grind (arith, apart_inserted)

  all_filtered : (P : K → Type 0) (p : K → Bool) (ks : List K) → AllByRecursion P ks → AllByRecursion P (filter p ks)
  all_filtered P p [] all = tt
  all_filtered P p (k ∷ ks) all = grind (arith, all_filtered P p ks all.1)

  pub apart_filtered : (p : K → Bool) (ks : List K) → Apart ks → Apart (filter p ks)
  apart_filtered p [] apart = tt
  apart_filtered p (k ∷ ks) apart = grind (arith, apart_filtered p ks apart.1, all_filtered)

  -- one that is among some is among those that pass a test that it passes
  pub among_filtered : (p : K → Bool) (x : K) (ks : List K) → p x ≡ true → list_any (same x) ks ≡ true → list_any (same x) (filter p ks) ≡ true
  among_filtered p x [] passes there = cc
  among_filtered p x (k ∷ ks) passes there = by (same x k) refl (p k) refl (λ later. among_filtered p x ks passes later) there
    where
      by : (a : Bool) → same x k ≡ a → (b : Bool) → p k ≡ b → (list_any (same x) ks ≡ true → list_any (same x) (filter p ks) ≡ true) → (a || list_any (same x) ks) ≡ true → list_any (same x) (filter p (k ∷ ks)) ≡ true
      by a ea b eb rest any = grind (arith, false≢true)

  shorter : (p : K → Bool) (ys : List K) → list_any p ys ≡ true → length ys ≡ suc (length (without_first p ys))
  shorter p [] there = cc
  shorter p (y ∷ ys) there = by (p y) refl there (λ later. shorter p ys later)
    where
      by : (b : Bool) → p y ≡ b → (b || list_any p ys) ≡ true → (list_any p ys ≡ true → length ys ≡ suc (length (without_first p ys))) → suc (length ys) ≡ suc (length (if b then ys else y ∷ without_first p ys))
      by b e any rest = grind arith

  still_among : (x z : K) (ys : List K) → same x z ≡ false → list_any (same z) ys ≡ true → list_any (same z) (without_first (same x) ys) ≡ true
  still_among x z [] apart there = cc
  still_among x z (y ∷ ys) apart there = by (same x y) refl (same z y) refl there (λ later. still_among x z ys apart later)
    where
      by : (a : Bool) → same x y ≡ a → (b : Bool) → same z y ≡ b → (b || list_any (same z) ys) ≡ true → (list_any (same z) ys ≡ true → list_any (same z) (without_first (same x) ys) ≡ true)
          → list_any (same z) (if a then ys else y ∷ without_first (same x) ys) ≡ true
      by a ea b eb any rest = grind (arith, false≢true)

  pub no_longer : (xs ys : List K) → Apart xs → AllByRecursion (λ x. list_any (same x) ys ≡ true) xs → length xs ≤ length ys
  no_longer [] ys apart all = omega arith
  no_longer (x ∷ xs) ys apart all =
      omega (arith, shorter (same x) ys all.0, no_longer xs (without_first (same x) ys) apart.1 (still_all xs apart.0 all.1))
    where
      still_all : (zs : List K) → AllByRecursion (λ z. same x z ≡ false) zs → AllByRecursion (λ z. list_any (same z) ys ≡ true) zs → AllByRecursion (λ z. list_any (same z) (without_first (same x) ys) ≡ true) zs
      still_all [] apart all = tt
      still_all (z ∷ zs) apart all = (still_among x z ys apart.0 all.0, still_all zs apart.1 all.1)
