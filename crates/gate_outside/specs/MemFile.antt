-- A file in memory, as its loads see it.
use Rattle.std.specs.Prelude.{◌≡◌, ◌<◌, ◌≤◌, ℕ, Bool, true, false, List, length, Result, Ok, Err}
use Rattle.std.specs.Global.{Vec}
use Rattle.gate_outside.specs.declared.load_fault.LoadFault.{LoadFault}
use Rattle.gate_outside.specs.declared.load_fault.LoadFault.TheVariants.{Failed, TooLong, Memory}
use Rattle.gate_outside.specs.Faults.{Script, fails_next, after_call}
use Rattle.gate_outside.specs.Files.{largest_file}

pub record MemFile : Type 0 where
  -- the file's bytes
  pub content : List ℕ
  -- which loads fail
  pub script : Script

-- what a load that fails or doesn't gives
abbrev pub Gives : List ℕ → Bool → Result (Vec ℕ) LoadFault → Type 0
Gives content true (Ok bytes) = ⊥
Gives content true (Err Failed) = Unit {0}
Gives content true (Err TooLong) = ⊥
Gives content true (Err Memory) = ⊥
Gives content false (Ok bytes) = (bytes.items ≡ content) × (length content ≤ largest_file)
Gives content false (Err Failed) = ⊥
Gives content false (Err TooLong) = largest_file < length content
Gives content false (Err Memory) = length content ≤ largest_file

-- A load gives the content, where it isn't one of those that fail.
pub record LoadsMemory (old new : MemFile) (result : Result (Vec ℕ) LoadFault) : Type 0 where
  pub numbered : new.script ≡ after_call old.script (fails_next old.script)
  pub content : new.content ≡ old.content
  pub gives : Gives old.content (fails_next old.script) result
