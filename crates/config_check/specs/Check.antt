-- What each status of `check` says of the file and of what was written.
use Rattle.std.specs.Prelude.{◌≡◌, ◌⊎◌, ℕ, List, codes, Option, Ok}
use Rattle.gate_outside.specs.Faults.{Rose}
use Rattle.gate_outside.specs.Told.{Joins}
use Rattle.config_check.specs.Configuring.{ConfiguresBy, FileSays, IsToldAs}
use Rattle.settings.specs.declared.setup.Setup.{Setup}
use Rattle.command_line.specs.declared.statuses.Status.TheVariants as statuses
use Rattle.command_line.specs.Statuses.{Offers, number}

abbrev pub accepted_line : List ℕ
accepted_line = codes "config ok\n"

abbrev pub IsCheckStatus : ℕ → Type 0
IsCheckStatus status = (status ≡ number statuses.Done) ⊎ ((status ≡ number statuses.Refused) ⊎ ((status ≡ number statuses.SinkFailed) ⊎ ((status ≡ number statuses.Unread) ⊎ (status ≡ number statuses.NoMemory))))

-- the file is an accepted configuration
abbrev pub IsAccepted : Option (List ℕ) → Type 0
IsAccepted content = (setup : Setup) × FileSays content (Ok setup)

-- it was written that a configuration is accepted, or a front of that was, and the count of faults rose
pub record Accepts (told told' : Option (List ℕ)) (sink sink' status : ℕ) : Type 0 where
  pub known : (status ≡ number statuses.Done) ⊎ (status ≡ number statuses.SinkFailed)
  pub done : status ≡ number statuses.Done → Joins told told' accepted_line
  pub sink_failed : status ≡ number statuses.SinkFailed → Offers told told' sink sink' accepted_line
  pub sink_cause : status ≡ number statuses.SinkFailed → Rose sink sink'
  pub steady : status ≡ number statuses.Done → sink' ≡ sink

pub record ChecksBy (content : Option (List ℕ)) (files files' : ℕ) (told told' : Option (List ℕ)) (sink sink' status : ℕ) : Type 0 where
  pub known : IsCheckStatus status
  pub configures : ConfiguresBy content files files' told told' sink sink' status
  pub done : status ≡ number statuses.Done → IsAccepted content × Joins told told' accepted_line
  pub sink_failed : status ≡ number statuses.SinkFailed → IsAccepted content × Offers told told' sink sink' accepted_line
  pub sink_cause : status ≡ number statuses.SinkFailed → Rose sink sink'
  pub steady : status ≡ number statuses.Done → sink' ≡ sink
  -- where nothing fails, it is said of an accepted configuration that it is one, unless memory ran out
  pub complete : (setup : Setup) → IsToldAs content (Ok setup) → (Rose files files' → ⊥) → (Rose sink sink' → ⊥) → (status ≡ number statuses.Done) ⊎ (status ≡ number statuses.NoMemory)
