-- What comes of the file that a command's configuration stands in.
use Rattle.std.specs.Prelude.{◌≡◌, ◌<◌, ◌≤◌, ◌⊎◌, ℕ, List, ◌∷◌, [], ◌++◌, length, Option, Some, Result, Ok, Err}
use Rattle.std.specs.Global.{Box}
use Rattle.gate_outside.specs.Faults.{Rose}
use Rattle.gate_outside.specs.Files.{largest_file}
use Rattle.config_document.specs.declared.fault.ConfigFault.{ConfigFault}
use Rattle.config_document.specs.Faults.{line_of}
use Rattle.gate_config.specs.ConfigOf.{IsWholeConfigOf}
use Rattle.settings.specs.Setup.{IsSetup}
use Rattle.settings.specs.declared.setup.Setup.{Setup}
use Rattle.config_check.specs.declared.configuring.Unconfigured.{Unconfigured}
use Rattle.config_check.specs.declared.configuring.Unconfigured.TheVariants.{Unread, Refused, Memory}
use Rattle.command_line.specs.declared.statuses.Status.TheVariants as statuses
use Rattle.command_line.specs.Statuses.{Offers, number}

-- a line with its end
abbrev pub with_end : List ℕ → List ℕ
with_end line = line ++ 10 ∷ []

-- The file was loaded, which has at most 1 MiB, and this is what its bytes say: all that they configure, or the first fault. Where the file's
-- bytes are told, they are these.
pub record FileSays (told : Option (List ℕ)) (said : Result Setup ConfigFault) : Type 0 where
  pub bytes : List ℕ
  pub own : (all : List ℕ) → told ≡ Some all → bytes ≡ all
  pub within : length bytes ≤ largest_file
  pub says : IsWholeConfigOf bytes said

-- a configuration is refused for this fault, whose line was offered to the sink
pub record Refuses (content told told' : Option (List ℕ)) (sink sink' : ℕ) : Type 0 where
  pub fault : ConfigFault
  pub file : FileSays content (Err fault)
  pub line : List ℕ
  pub is_line : line_of fault ≡ Some line
  pub offers : Offers told told' sink sink' (with_end line)

-- The file's bytes are told and within 1 MiB, and say this.
pub record IsToldAs (told : Option (List ℕ)) (said : Result Setup ConfigFault) : Type 0 where
  pub bytes : List ℕ
  pub told_by : told ≡ Some bytes
  pub within : length bytes ≤ largest_file
  pub says : IsWholeConfigOf bytes said

-- the count of faults rose in the load, or the file has more than 1 MiB, where its bytes are told
abbrev pub IsUnread : Option (List ℕ) → ℕ → ℕ → Type 0
IsUnread told before after = Rose before after ⊎ ((bytes : List ℕ) → told ≡ Some bytes → largest_file < length bytes)

-- All that a file configures, which is valid, or why there is nothing. Want of memory is free.
abbrev pub LoadsWhole : Option (List ℕ) → ℕ → ℕ → Result (Box Setup) Unconfigured → Type 0
LoadsWhole told before after (Ok b) = IsSetup b.value × FileSays told (Ok b.value)
LoadsWhole told before after (Err Unread) = IsUnread told before after
LoadsWhole told before after (Err (Refused line)) = (fault : ConfigFault) × (line_of fault ≡ Some line.items) × FileSays told (Err fault)
LoadsWhole told before after (Err Memory) = Unit {0}

-- the same of bytes that were loaded
abbrev pub SaysWhole : List ℕ → Result (Box Setup) Unconfigured → Type 0
SaysWhole bytes (Ok b) = IsSetup b.value × IsWholeConfigOf bytes (Ok b.value)
SaysWhole bytes (Err Unread) = ⊥
SaysWhole bytes (Err (Refused line)) = (fault : ConfigFault) × (line_of fault ≡ Some line.items) × IsWholeConfigOf bytes (Err fault)
SaysWhole bytes (Err Memory) = Unit {0}

-- the status of a command without its settings; of a configuration that is refused the line of its fault was offered to the sink
abbrev pub GivesUp : Unconfigured → Option (List ℕ) → Option (List ℕ) → ℕ → ℕ → ℕ → Type 0
GivesUp Unread told told' before after status = status ≡ number statuses.Unread
GivesUp (Refused line) told told' before after status = (status ≡ number statuses.Refused) × Offers told told' before after (with_end line.items)
GivesUp Memory told told' before after status = status ≡ number statuses.NoMemory

-- The statuses that come of a configuration's file, by its bytes, where they are told, by the counts of faults of the files and of the sink, and
-- by what the sink took.
pub record ConfiguresBy (content : Option (List ℕ)) (files files' : ℕ) (told told' : Option (List ℕ)) (sink sink' status : ℕ) : Type 0 where
  -- what each says
  pub refused : status ≡ number statuses.Refused → Refuses content told told' sink sink'
  pub unread : status ≡ number statuses.Unread → IsUnread content files files'
  -- and where it comes, unless memory ran out
  pub refusal : (fault : ConfigFault) → IsToldAs content (Err fault) → (Rose files files' → ⊥) → (status ≡ number statuses.Refused) ⊎ (status ≡ number statuses.NoMemory)
  pub too_long : (bytes : List ℕ) → content ≡ Some bytes → largest_file < length bytes → (status ≡ number statuses.Unread) ⊎ (status ≡ number statuses.NoMemory)
