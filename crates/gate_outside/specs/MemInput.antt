-- An input in memory, as its calls see it.
use Rattle.std.specs.Prelude.{◌≡◌, ℕ, Bool, true, false, List, length, take, drop, min, Result, Ok, Err}
use Rattle.gate_outside.specs.Faults.{Script, fails_next, after_call}

pub record MemInput : Type 0 where
  -- the bytes that are left
  pub left : List ℕ
  -- how many bytes a read moves at most
  pub most : ℕ
  -- which reads fail
  pub script : Script

-- what a call that fails or doesn't moves
abbrev pub Moves : {E : Type 0} → MemInput → MemInput → List ℕ → Bool → Result ℕ E → Type 0
Moves old new buffer true (Err e) = new.left ≡ old.left
Moves old new buffer false (Ok count) = (count ≡ min (min old.most (length buffer)) (length old.left))
    × (take count buffer ≡ take count old.left) × (new.left ≡ drop count old.left)
Moves old new buffer true (Ok count) = ⊥
Moves old new buffer false (Err e) = ⊥

-- A read moves the least of what it moves at most, the room and what is left, where it isn't one of those that fail.
pub record ReadsMemory {E : Type 0} (old new : MemInput) (buffer : List ℕ) (result : Result ℕ E) : Type 0 where
  pub numbered : new.script ≡ after_call old.script (fails_next old.script)
  pub most : new.most ≡ old.most
  pub moves : Moves old new buffer (fails_next old.script) result
