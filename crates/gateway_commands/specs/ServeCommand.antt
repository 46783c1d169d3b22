-- What each status of `serve` says of the file, of the links, of what was read and received between them, and of what was handed over and written.
use Rattle.std.specs.Prelude.{◌≡◌, ◌≢◌, ◌⊎◌, ℕ, List, [], Option, Some, Result, Ok, Err}
use Rattle.config_values.specs.declared.config.Ends.{Ends}
use Rattle.gate_outside.specs.declared.Failed.{Failed}
use Rattle.gate_outside.specs.Faults.{Rose}
use Rattle.gate_outside.specs.Link.{Attachment, GoesOn, Traffic, attachment}
use Rattle.settings.specs.declared.setup.Setup.{Setup}
use Rattle.serving.specs.BridgeSettings.{bridge_settings_of}
use Rattle.serving.specs.Served.{Outside, EndsBy, outside}
use Rattle.config_check.specs.Configuring.{ConfiguresBy, FileSays, IsToldAs}
use Rattle.command_line.specs.declared.statuses.Status.TheVariants as statuses
use Rattle.command_line.specs.Statuses.{number}

-- ---- where the links listen and send

-- all that is sent to the bus goes to one address
abbrev pub bus_attachment : Ends → Attachment
bus_attachment ends = record { listen = ends.bus_listen.items; routes = []; other = ends.bus_send.items }

abbrev pub net_attachment : Ends → Attachment
net_attachment ends = attachment ends.net_listen.items ends.net

-- Where the link tells, it was attached so, and nothing else changed.
abbrev pub IsAttached : Attachment → Option Traffic → Option Traffic → Type 0
IsAttached a old new = GoesOn (λ t. record t { attached = Some a }) old new

-- what a link tells is what it told
abbrev pub IsAsBefore : Option Traffic → Option Traffic → Type 0
IsAsBefore old new = GoesOn (λ t. t) old new

-- The bus can't be attached, and the network is as before; or the bus was attached, and the network can't be. The count of faults of the
-- one that can't be rose. Nothing was received or sent.
abbrev pub FailsToAttach : Ends → Option Traffic → Option Traffic → ℕ → ℕ → Option Traffic → Option Traffic → ℕ → ℕ → Type 0
FailsToAttach ends bus bus' bus_faults bus_faults' net net' net_faults net_faults' =
    (IsAsBefore bus bus' × IsAsBefore net net' × Rose bus_faults bus_faults')
    ⊎ (IsAttached (bus_attachment ends) bus bus' × IsAsBefore net net' × Rose net_faults net_faults')

-- both links were attached, or one couldn't be
abbrev pub AttachesBoth : Ends → Option Traffic → Option Traffic → ℕ → ℕ → Option Traffic → Option Traffic → ℕ → ℕ → Result (Unit {0}) Failed → Type 0
AttachesBoth ends bus bus' bus_faults bus_faults' net net' net_faults net_faults' (Ok done) =
    IsAttached (bus_attachment ends) bus bus' × IsAttached (net_attachment ends) net net'
AttachesBoth ends bus bus' bus_faults bus_faults' net net' net_faults net_faults' (Err e) =
    FailsToAttach ends bus bus' bus_faults bus_faults' net net' net_faults net_faults'

-- ---- a gateway between the links

-- the statuses of a gateway that took turns
abbrev pub IsTurnsStatus : ℕ → Type 0
IsTurnsStatus status = (status ≡ number statuses.Done) ⊎ (status ≡ number statuses.SinkFailed)

-- Both links were attached by the settings, and then told this. A gateway of the setup took turns between them, which says this by its status.
pub record TakesTurns (setup : Setup) (turns : ℕ) (clock clock' : Option (List ℕ)) (old new : Outside) (status : ℕ) : Type 0 where
  pub bus : Option Traffic
  pub net : Option Traffic
  pub bus_attached : IsAttached (bus_attachment setup.settings.config.ends) old.bus bus
  pub net_attached : IsAttached (net_attachment setup.settings.config.ends) old.net net
  pub ends : EndsBy (bridge_settings_of setup) turns clock clock' (outside bus net old.taken old.faults) new status

-- What each status of a gateway of this setup says. Want of memory is free.
pub record ServesWith (setup : Setup) (turns : ℕ) (clock clock' : Option (List ℕ)) (bus bus' net net' : ℕ) (old new : Outside) (status : ℕ) : Type 0 where
  pub known : (status ≡ number statuses.NoMemory) ⊎ ((status ≡ number statuses.Unattached) ⊎ IsTurnsStatus status)
  pub serves : IsTurnsStatus status → TakesTurns setup turns clock clock' old new status
  pub unattached : status ≡ number statuses.Unattached → FailsToAttach setup.settings.config.ends old.bus new.bus bus bus' old.net new.net net net'
  pub sink_cause : status ≡ number statuses.SinkFailed → Rose old.faults new.faults
  -- where memory was found and nothing fails, all turns are taken
  pub complete : status ≢ number statuses.NoMemory → (Rose bus bus' → ⊥) → (Rose net net' → ⊥) → (Rose old.faults new.faults → ⊥) → status ≡ number statuses.Done

-- ---- the command

-- the statuses of a gateway that took turns, of links that can't be attached, and of a configuration that it can't run with
abbrev pub IsServeStatus : ℕ → Type 0
IsServeStatus status = (status ≡ number statuses.Refused) ⊎ ((status ≡ number statuses.Unread) ⊎ ((status ≡ number statuses.NoMemory) ⊎ ((status ≡ number statuses.Unattached) ⊎ IsTurnsStatus status)))

-- the gateway was one of all that the file says
abbrev pub Serves : ℕ → Option (List ℕ) → Option (List ℕ) → Option (List ℕ) → Outside → Outside → ℕ → Type 0
Serves turns content clock clock' old new status =
    (setup : Setup) × FileSays content (Ok setup) × TakesTurns setup turns clock clock' old new status

-- a link couldn't be attached by the settings that the file says
abbrev pub Unattached : Option (List ℕ) → ℕ → ℕ → ℕ → ℕ → Outside → Outside → Type 0
Unattached content bus bus' net net' old new =
    (setup : Setup) × FileSays content (Ok setup) × FailsToAttach setup.settings.config.ends old.bus new.bus bus bus' old.net new.net net net'

-- By the counts of faults of the files and of both links, by the clock's readings, and by what is told of the links and the sink.
pub record ServesBy (turns : ℕ) (content : Option (List ℕ)) (files files' : ℕ) (clock clock' : Option (List ℕ)) (bus bus' net net' : ℕ)
    (old new : Outside) (status : ℕ) : Type 0 where
  pub known : IsServeStatus status
  pub configures : ConfiguresBy content files files' old.taken new.taken old.faults new.faults status
  pub serves : IsTurnsStatus status → Serves turns content clock clock' old new status
  pub unattached : status ≡ number statuses.Unattached → Unattached content bus bus' net net' old new
  pub sink_cause : status ≡ number statuses.SinkFailed → Rose old.faults new.faults
  -- where nothing fails, a gateway of an accepted configuration takes all turns, unless memory ran out
  pub complete : (setup : Setup) → IsToldAs content (Ok setup) → (Rose files files' → ⊥) → (Rose bus bus' → ⊥) → (Rose net net' → ⊥)
      → (Rose old.faults new.faults → ⊥) → (status ≡ number statuses.Done) ⊎ (status ≡ number statuses.NoMemory)
