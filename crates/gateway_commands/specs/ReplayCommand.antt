-- What each status of `replay` says of the file, of the bytes that were read and of those that were written.
use Rattle.std.specs.Prelude.{◌≡◌, ◌≢◌, ◌⊎◌, ℕ, List, Option, Ok}
use Rattle.gate_outside.specs.Faults.{Rose}
use Rattle.settings.specs.declared.setup.Setup.{Setup}
use Rattle.serving.specs.BridgeSettings.{bridge_settings_of}
use Rattle.replaying.specs.Replayed.{IsReplay}
use Rattle.config_check.specs.Configuring.{ConfiguresBy, FileSays, IsToldAs}
use Rattle.command_line.specs.declared.statuses.Status.TheVariants as statuses
use Rattle.command_line.specs.Statuses.{EndsBy, IsReplayStatus, IsStreamStatus, IsUnhindered, SteadyBy, number}

-- what a gateway of this setup says by its status, which was run over a capture
pub record RunsBy (setup : Setup) (left left' : Option (List ℕ)) (source source' : ℕ) (told told' : Option (List ℕ)) (sink sink' status : ℕ) : Type 0 where
  pub known : IsReplayStatus status
  pub ends : EndsBy (IsReplay (bridge_settings_of setup)) left left' told told' status
  pub sink_cause : status ≡ number statuses.SinkFailed → Rose sink sink'
  pub source_cause : status ≡ number statuses.SourceFailed → Rose source source'
  pub steady : SteadyBy source source' sink sink' status
  pub complete : status ≢ number statuses.NoMemory → IsUnhindered left source source' sink sink' → status ≡ number statuses.Done

-- the statuses of a gateway that runs, and those of a configuration that it can't run with
abbrev pub IsReplayCommandStatus : ℕ → Type 0
IsReplayCommandStatus status = (status ≡ number statuses.Refused) ⊎ ((status ≡ number statuses.Unread) ⊎ IsReplayStatus status)

-- a gateway of all that the file says was run over the capture, and this is what it says by its status
pub record Replays (content : Option (List ℕ)) (left left' told told' : Option (List ℕ)) (status : ℕ) : Type 0 where
  pub setup : Setup
  pub file : FileSays content (Ok setup)
  pub ends : EndsBy (IsReplay (bridge_settings_of setup)) left left' told told' status

pub record ReplaysBy (content : Option (List ℕ)) (files files' : ℕ) (left left' : Option (List ℕ)) (source source' : ℕ) (told told' : Option (List ℕ))
    (sink sink' status : ℕ) : Type 0 where
  pub known : IsReplayCommandStatus status
  pub configures : ConfiguresBy content files files' told told' sink sink' status
  pub replays : IsStreamStatus status → Replays content left left' told told' status
  pub sink_cause : status ≡ number statuses.SinkFailed → Rose sink sink'
  pub source_cause : status ≡ number statuses.SourceFailed → Rose source source'
  pub steady : SteadyBy source source' sink sink' status
  -- where nothing fails, a gateway of an accepted configuration is run over the whole capture, unless memory ran out
  pub complete : (setup : Setup) → IsToldAs content (Ok setup) → (Rose files files' → ⊥) → IsUnhindered left source source' sink sink' → (status ≡ number statuses.Done) ⊎ (status ≡ number statuses.NoMemory)
