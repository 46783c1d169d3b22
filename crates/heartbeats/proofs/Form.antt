-- What is promised of heartbeats as a part beside the gateway.
use Rattle.std.proofs.Common.{◌≡◌, ℕ, subst}
use Rattle.std.specs.Prelude.{Option, Some, None}
use Rattle.std.proofs.lemmas.Option.{none-some, same_Some}
use Rattle.config_values.specs.Settings.{settings_ignoring}
use Rattle.settings.specs.Setup.{gateway_of}
use Rattle.settings.specs.declared.heartbeat.HeartbeatConfig.{HeartbeatConfig}
use Rattle.settings.specs.declared.heartbeat.NetHeartbeat.{NetHeartbeat}
use Rattle.parts.specs.Compose.{maybe_keep_commands, maybe_speaks}
use Rattle.parts.specs.PartSteps.{KeepsCommands}
use Rattle.parts.specs.Voices.{IsUnderstood}
use Rattle.heartbeats.specs.Beats.{SpeaksBeats, asked_by, beats_asked, beats_stand}
use Rattle.heartbeats.specs.Kept.{bus_stands, net_stands}

-- ---- a command to go to an address is no event for them

net_keeps : KeepsCommands net_stands
net_keeps n c s h source address k are is = is

bus_keeps : KeepsCommands bus_stands
bus_keeps every c s h source address k are is = is

pub keeps_commands : KeepsCommands beats_stand
keeps_commands b c s h source address k are is = (
  maybe_keep_commands net_stands net_keeps b.net c s h source address k.net are is.0,
  maybe_keep_commands bus_stands bus_keeps b.bus_every_s c s h source address k.bus are is.1,
)

-- ---- valid settings can be understood

asked_is : (net : Option NetHeartbeat) (bus : Option ℕ) (b r : HeartbeatConfig) → asked_by net bus b ≡ Some r → b ≡ r
asked_is None None b r is = absurd (none-some r is)
asked_is None (Some every) b r is = same_Some b r is
asked_is (Some n) bus b r is = same_Some b r is

pub understood : IsUnderstood beats_asked (maybe_speaks SpeaksBeats)
unfolding settings_ignoring
understood x typed valid = λ r is.
    subst (λ (b : HeartbeatConfig). SpeaksBeats b (gateway_of x)) (asked_is x.heartbeat.net x.heartbeat.bus_every_s x.heartbeat r is)
    (record { sfi = typed.sfi; net = valid.heartbeat.net })
