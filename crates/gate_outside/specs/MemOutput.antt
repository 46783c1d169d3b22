-- An output in memory, as its calls see it.
use Rattle.std.specs.Prelude.{◌≡◌, ℕ, Bool, true, false, ◌&&◌, ◌||◌, ◌==◌, nat_lt, List, length, take, min, Option, Result, Ok, Err}
use Rattle.gate_outside.specs.Faults.{Script, fails_next, after_call}
use Rattle.gate_outside.specs.Told.{told_with}

pub record MemOutput : Type 0 where
  -- the bytes that are told, which is nothing once more than the room was taken
  pub taken : Option (List ℕ)
  -- how many bytes are told at most
  pub room : ℕ
  -- how many bytes a write moves at most
  pub most : ℕ
  -- which writes fail
  pub script : Script

-- A write fails where its number is listed, and where none of a piece that isn't empty may move.
abbrev pub write_fails : MemOutput → List ℕ → Bool
write_fails output piece = fails_next output.script || (output.most == 0 && nat_lt 0 (length piece))

-- what a call that fails or doesn't takes
abbrev pub Takes : {E : Type 0} → MemOutput → MemOutput → List ℕ → Bool → Result ℕ E → Type 0
Takes old new piece true (Err e) = new.taken ≡ old.taken
Takes old new piece false (Ok count) = (count ≡ min old.most (length piece)) × (new.taken ≡ told_with old.taken old.room (take count piece))
Takes old new piece true (Ok count) = ⊥
Takes old new piece false (Err e) = ⊥

-- A write takes as much of the piece as it moves at most, where it isn't one of those that fail.
pub record WritesMemory {E : Type 0} (old new : MemOutput) (piece : List ℕ) (result : Result ℕ E) : Type 0 where
  pub numbered : new.script ≡ after_call old.script (write_fails old piece)
  pub room : new.room ≡ old.room
  pub most : new.most ≡ old.most
  pub takes : Takes old new piece (write_fails old piece) result
