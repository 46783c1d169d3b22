-- What holds of each element by its place holds of each by recursion, and back.
use Rattle.std.proofs.Common.{◌<◌, ℕ, zero, suc, List, [], ◌∷◌, length, All, slice_index_or, arith}
use Rattle.std.specs.List.{AllByRecursion}

pub by_recursion : {X : Type 0} (P : X → Type 0) (xs : List X) → All P xs → AllByRecursion P xs
by_recursion P [] h = tt
by_recursion P (x ∷ xs) h = (h 0 x (omega arith), by_recursion P xs (λ k d below. h (suc k) d (omega arith)))

pub by_place : {X : Type 0} (P : X → Type 0) (xs : List X) → AllByRecursion P xs → (k : ℕ) (d : X) → k < length xs → P (slice_index_or xs k d)
by_place P [] h k d below = absurd (omega arith)
by_place P (x ∷ xs) h zero d below = h.0
by_place P (x ∷ xs) h (suc k) d below = by_place P xs h.1 k d (omega arith)
