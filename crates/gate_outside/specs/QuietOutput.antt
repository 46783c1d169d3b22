-- An output in memory that never fails, as its calls see it.
use Rattle.std.specs.Prelude.{◌≡◌, ℕ, List, length, take, min, Option, Result, IsOkAnd}
use Rattle.gate_outside.specs.Told.{told_with}

pub record QuietOutput : Type 0 where
  -- the bytes that are told, which is nothing once more than the room was taken
  pub taken : Option (List ℕ)
  -- how many bytes are told at most
  pub room : ℕ
  -- how many bytes a write moves at most
  pub most : ℕ

-- A write takes as much of the piece as it moves at most.
pub record WritesQuietly {E : Type 0} (old new : QuietOutput) (piece : List ℕ) (result : Result ℕ E) : Type 0 where
  pub room : new.room ≡ old.room
  pub most : new.most ≡ old.most
  pub takes : IsOkAnd result (λ count. (count ≡ min old.most (length piece)) × (new.taken ≡ told_with old.taken old.room (take count piece)))
