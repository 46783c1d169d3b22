-- What standard error says of a run that didn't do its work.
use Rattle.std.specs.Prelude.{ℕ, List, codes, Option, Some, None}
use Rattle.std.specs.declared.io.ErrorKind.{ErrorKind}
use Rattle.std.specs.declared.io.ErrorKind.TheVariants.{AddrInUse, AddrNotAvailable, BrokenPipe, FileTooLarge, IsADirectory, NotFound}
use Rattle.command_line.specs.declared.statuses.Status.{Status}
use Rattle.command_line.specs.declared.statuses.Status.TheVariants.{Done, NoCommand, Refused, SinkFailed, SourceFailed, Unread, NoMemory, TooLong, Unattached}
use Rattle.run_notes.specs.declared.reasons.Reason.{Reason}

-- of a status that says all: no words, no file, no kind of a failure belong to it
abbrev pub reason_of : Status → Option (List ℕ)
reason_of Done = None
reason_of NoCommand = None
reason_of Refused = Some (codes "the configuration is refused")
reason_of SinkFailed = None
reason_of SourceFailed = Some (codes "the input can't be read")
reason_of Unread = None
reason_of NoMemory = Some (codes "there is no memory for the configuration or the gateway")
reason_of TooLong = Some (codes "the input has more than 2^40 bytes")
reason_of Unattached = None

-- ---- why something failed, behind its name: words, and the kind of failure where they don't tell it

pub record Said : Type 0 where
  pub words : List ℕ
  pub kind : Option ErrorKind

abbrev pub said_of : Reason → Said
said_of reason = record { words = reason.words.now; kind = reason.kind }

-- these words tell all
abbrev pub told : List ℕ → Said
told words = record { words = words; kind = None }

-- of the output; a closed pipe is how its reader says that it has enough
abbrev pub write_reason : Option ErrorKind → Option Said
write_reason (Some BrokenPipe) = None
write_reason kind = Some (record { words = codes " can't be written"; kind = kind })

-- of a configuration's file
abbrev pub file_reason : Option ErrorKind → Said
file_reason (Some NotFound) = told (codes " isn't there")
file_reason (Some IsADirectory) = told (codes " is a folder")
file_reason (Some FileTooLarge) = told (codes " has more than 1 MiB")
file_reason kind = record { words = codes " can't be read"; kind = kind }

-- of a link
abbrev pub link_reason : ErrorKind → Said
link_reason AddrInUse = told (codes ": a program listens there already")
link_reason AddrNotAvailable = told (codes ": this machine has no such address")
link_reason kind = record { words = codes ""; kind = Some kind }
