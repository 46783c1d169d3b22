-- What is dated by one entry is dated by a later one.
use Rattle.std.proofs.Common.{ℕ, ◌≤◌, List, All, Option, Some, None, arith}
use Rattle.claim_table.specs.Claims.{IsSinceBy}
use Rattle.claim_table.specs.declared.answer.Holder.{Holder}

since_later : (i j : ℕ) (x : Option Holder) → i ≤ j → IsSinceBy i x → IsSinceBy j x
since_later i j None later by = tt
since_later i j (Some h) later by = omega (arith, later, by)

pub later : (i j : ℕ) (holders : List (Option Holder)) → i ≤ j → All (IsSinceBy i) holders → All (IsSinceBy j) holders
later i j holders within all = λ place d here. since_later i j _ within (all place d here)
