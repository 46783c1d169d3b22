-- Up to when no slot expires.
use Rattle.std.proofs.Common.{◌≡◌, ℕ, zero, suc, ◌+◌, ◌<◌, ◌≤◌, min, List, [], ◌∷◌, length, get_or, take, refl, arith}
use Rattle.std.specs.List.{AllByRecursion}
use Rattle.slot_views.specs.declared.slot.Slot.{Slot}
use Rattle.slot_views.specs.Shelf.{quiet_of}

least_of_three : (a b c : ℕ) → min a (min b c) ≡ min (min a b) c
least_of_three a b c = omega arith

pub quiet_none : (K : Type 0) → quiet_of {K = K} [] ≡ 18446744073709551615
unfolding quiet_of
quiet_none K = refl

module _ {K : Type 0} where
  -- with one more slot
  pub quiet_more : (xs : List (Slot K)) (i : ℕ) (d : Slot K) → i < length xs → quiet_of (take (suc i) xs) ≡ min (quiet_of (take i xs)) ((get_or xs i d).last + (get_or xs i d).gap)
  unfolding quiet_of
  quiet_more [] i d in_range = absurd (omega arith)
  quiet_more (x ∷ xs) zero d in_range = omega arith
  quiet_more (x ∷ xs) (suc i) d in_range = grind (arith, quiet_more xs i d (omega arith), least_of_three)

  -- none expires up to then
  pub quiet_all : (until : ℕ) (xs : List (Slot K)) → until ≤ quiet_of xs → AllByRecursion (λ s. until ≤ s.last + s.gap) xs
  unfolding quiet_of
  quiet_all until [] le = tt
  quiet_all until (x ∷ xs) le = (omega (arith, le), quiet_all until xs (omega (arith, le)))
