-- What loading a file gives.
use Rattle.std.specs.Prelude.{◌≡◌, ◌<◌, ◌≤◌, ◌^◌, ℕ, List, length, Option, Some, None, Result, Ok, Err, IsErrOf}
use Rattle.std.specs.Global.{Vec}
use Rattle.gate_outside.specs.declared.load_fault.LoadFault.{LoadFault}
use Rattle.gate_outside.specs.declared.load_fault.LoadFault.TheVariants.{Failed, TooLong, Memory}
use Rattle.gate_outside.specs.Faults.{Rose}

-- how many bytes a file that is loaded may have: 1 MiB
abbrev pub largest_file : ℕ
largest_file = 2 ^ 20

-- Where the file's bytes are told, they are what is loaded. Too long is exactly a file above the limit: no such file is
-- loaded, and none that is shorter is refused so.
abbrev pub Loads : Option (List ℕ) → Result (Vec ℕ) LoadFault → Type 0
Loads None (Ok bytes) = length bytes.items ≤ largest_file
Loads (Some told) (Ok bytes) = (bytes.items ≡ told) × (length told ≤ largest_file)
Loads None (Err fault) = Unit {0}
Loads (Some told) (Err Failed) = Unit {0}
Loads (Some told) (Err TooLong) = largest_file < length told
Loads (Some told) (Err Memory) = Unit {0}

-- the count stays in a load that didn't fail: one that gave the bytes, was too long, or found no memory
abbrev pub StaysUnlessFailed : ℕ → ℕ → Result (Vec ℕ) LoadFault → Type 0
StaysUnlessFailed before after (Ok bytes) = after ≡ before
StaysUnlessFailed before after (Err Failed) = Unit {0}
StaysUnlessFailed before after (Err TooLong) = after ≡ before
StaysUnlessFailed before after (Err Memory) = after ≡ before

-- A load that failed has its cause in the count, which never falls and rises only by a load that failed.
pub record HasLoadCause (before after : ℕ) (result : Result (Vec ℕ) LoadFault) : Type 0 where
  pub never_falls : before ≤ after
  pub rose : IsErrOf result Failed → Rose before after
  pub steady : StaysUnlessFailed before after result
