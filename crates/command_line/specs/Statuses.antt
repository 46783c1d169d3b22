-- What the statuses of the program say.
use Rattle.std.specs.Prelude.{◌≡◌, ◌≤◌, ◌⊎◌, ℕ, List, [], ◌++◌, length, Option, Some}
use Rattle.gate_outside.specs.Faults.{Rose}
use Rattle.gate_outside.specs.Told.{Joins}
use Rattle.capture_stream.specs.declared.ending.Ending.{Ending}
use Rattle.capture_stream.specs.declared.ending.Ending.TheVariants as endings
use Rattle.capture_stream.specs.Progress.{input_limit, Finishes, StopsReading, StopsWriting, PassesLimit}
use Rattle.capture_stream.specs.Writer.{Sends}
use Rattle.command_line.specs.declared.statuses.Status.{Status}
use Rattle.command_line.specs.declared.statuses.Status.TheVariants.{Done, NoCommand, Refused, SinkFailed, SourceFailed, Unread, NoMemory, TooLong, Unattached}

-- what the program ends with
abbrev pub number : Status → ℕ
number Done = 0
number NoCommand = 2
number Refused = 3
number SinkFailed = 4
number SourceFailed = 5
number Unread = 6
number NoMemory = 7
number TooLong = 8
number Unattached = 9

abbrev pub status_of : Ending → Status
status_of endings.Done = Done
status_of endings.SinkFailed = SinkFailed
status_of endings.SourceFailed = SourceFailed
status_of endings.TooLong = TooLong

-- the statuses of a command over the lines of a capture
abbrev pub IsStreamStatus : ℕ → Type 0
IsStreamStatus status = (status ≡ number Done) ⊎ ((status ≡ number SinkFailed) ⊎ ((status ≡ number SourceFailed) ⊎ (status ≡ number TooLong)))

-- those of a replay
abbrev pub IsReplayStatus : ℕ → Type 0
IsReplayStatus status = (status ≡ number NoMemory) ⊎ IsStreamStatus status

-- the statuses of the program
abbrev pub IsStatus : ℕ → Type 0
IsStatus status = (status ≡ number NoCommand) ⊎ ((status ≡ number Refused) ⊎ ((status ≡ number Unread) ⊎ ((status ≡ number Unattached) ⊎ IsReplayStatus status)))

-- what comes before the first event, of a file that can't be read and for want of memory
abbrev pub IsEarly : ℕ → Type 0
IsEarly status = (status ≡ number Unread) ⊎ (status ≡ number NoMemory)

-- the statuses of a demonstration
abbrev pub IsDemoStatus : ℕ → Type 0
IsDemoStatus status = (status ≡ number Done) ⊎ ((status ≡ number SinkFailed) ⊎ (status ≡ number NoMemory))

-- This line was offered to the sink: all of it was taken, or some front of it where the count of faults rose.
pub record Offers (told told' : Option (List ℕ)) (before after : ℕ) (line : List ℕ) : Type 0 where
  pub written : List ℕ
  pub joins : Joins told told' written
  pub unwritten : List ℕ
  pub front : written ++ unwritten ≡ line
  pub whole : (unwritten ≡ []) ⊎ Rose before after

-- What each status of a command over lines says of the bytes that were read and written.
pub record EndsBy (IsText : List (List ℕ) → List ℕ → Type 0) (left left' told told' : Option (List ℕ)) (status : ℕ) : Type 0 where
  pub done : status ≡ number Done → Finishes IsText left left' told told'
  pub sink_failed : status ≡ number SinkFailed → StopsWriting IsText left left' told told'
  pub source_failed : status ≡ number SourceFailed → StopsReading IsText left left' told told'
  pub too_long : status ≡ number TooLong → PassesLimit IsText left left' told told'

-- Of 4, 5 and 8 the first call that fails decides: by the counts of faults of the source and of the sink, a call failed only of the kind that
-- the status names.
pub record SteadyBy (source source' sink sink' status : ℕ) : Type 0 where
  pub done : status ≡ number Done → (source' ≡ source) × (sink' ≡ sink)
  pub sink_failed : status ≡ number SinkFailed → source' ≡ source
  pub source_failed : status ≡ number SourceFailed → sink' ≡ sink
  pub too_long : status ≡ number TooLong → (source' ≡ source) × (sink' ≡ sink)

-- What each status of a command that writes a text of its own says of the bytes that were written.
pub record WritesBy (text : List ℕ) (told told' : Option (List ℕ)) (status : ℕ) : Type 0 where
  pub done : status ≡ number Done → Joins told told' text
  pub sink_failed : status ≡ number SinkFailed → (unwritten : List ℕ) × Sends told told' text unwritten

-- Nothing stops a command over lines: the source tells its bytes, they are no more than an input may have, and neither count
-- of faults rose.
pub record IsUnhindered (left : Option (List ℕ)) (source source' sink sink' : ℕ) : Type 0 where
  pub bytes : List ℕ
  pub told : left ≡ Some bytes
  pub within : length bytes ≤ input_limit
  pub source_held : Rose source source' → ⊥
  pub sink_held : Rose sink sink' → ⊥
