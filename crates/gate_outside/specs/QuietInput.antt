-- An input in memory that never fails, as its calls see it.
use Rattle.std.specs.Prelude.{◌≡◌, ℕ, List, length, take, drop, min, Result, IsOkAnd}

pub record QuietInput : Type 0 where
  -- the bytes that are left
  pub left : List ℕ
  -- how many bytes a read moves at most
  pub most : ℕ

-- A read moves the least of what it moves at most, the room and what is left.
pub record ReadsQuietly {E : Type 0} (old new : QuietInput) (buffer : List ℕ) (result : Result ℕ E) : Type 0 where
  pub most : new.most ≡ old.most
  pub moves : IsOkAnd result (λ count. (count ≡ min (min old.most (length buffer)) (length old.left))
      × (take count buffer ≡ take count old.left) × (new.left ≡ drop count old.left))
