-- Heartbeats beside the gateway. Their emits stand behind those of watched rows, by which they know whether one of them is silent.
use Rattle.std.specs.Prelude.{◌≡◌, ℕ, Bool, List, [], ◌++◌, Option, Some, None, if◌then◌else◌}
use Rattle.std.specs.Option.{ForSome}
use Rattle.sentence_text.specs.Names.{IsSfi}
use Rattle.gate_events.specs.Emit.{Emit}
use Rattle.history.specs.Entries.{Entry, History}
use Rattle.history.specs.Settings.{Settings}
use Rattle.parts.specs.Compose.{both_output, maybe_give, maybe_say, maybe_stand}
use Rattle.parts.specs.Lanes.{given_output}
use Rattle.parts.specs.PartSteps.{IsSaid, IsStepped, entry_at}
use Rattle.parts.specs.Voices.{Spoken, in_one}
use Rattle.parts.specs.declared.given.Given.{Given}
use Rattle.parts.specs.declared.part.Step.{Step}
use Rattle.settings.specs.Heartbeat.{IsNetHeartbeat}
use Rattle.settings.specs.declared.heartbeat.HeartbeatConfig.{HeartbeatConfig}
use Rattle.settings.specs.declared.heartbeat.NetHeartbeat.{NetHeartbeat}
use Rattle.settings.specs.declared.setup.Setup.{Setup}
use Rattle.heartbeats.specs.BeatOut.{beat_out, hbt_before, hbt_out, hbt_text, is_well}
use Rattle.heartbeats.specs.Due.{is_due}
use Rattle.heartbeats.specs.Kept.{BusKept, bus_stands, NetKept, net_stands}
use Rattle.heartbeats.specs.declared.heartbeats.Heartbeats.{Heartbeats}

-- whether a watched row is silent behind an entry
abbrev pub Silence : Type 0
Silence = History → Entry → Bool

-- ---- by what a file asks for it: by one of the two or both

abbrev pub asked_by : Option NetHeartbeat → Option ℕ → HeartbeatConfig → Option HeartbeatConfig
asked_by None None b = None
asked_by None (Some every) b = Some b
asked_by (Some n) bus b = Some b

abbrev pub beats_asked : Setup → Option HeartbeatConfig
beats_asked x = asked_by x.heartbeat.net x.heartbeat.bus_every_s x.heartbeat

-- ---- what is kept, and what is given

abbrev pub beats_stand : HeartbeatConfig → Settings → ℕ → History → Heartbeats → Type 0
beats_stand b c s h k = maybe_stand net_stands b.net c s h k.net × maybe_stand bus_stands b.bus_every_s c s h k.bus

abbrev pub beats_give_by : Silence → HeartbeatConfig → Settings → ℕ → History → Entry → List Emit
beats_give_by silent b c s h e = maybe_give (hbt_out silent) b.net c s h e ++ maybe_give beat_out b.bus_every_s c s h e

-- HBT stands before the frame
abbrev pub BeatPlace : Type 0
BeatPlace = Given 0 × Given 1

abbrev pub beat_output : BeatPlace → List Emit
beat_output place = both_output given_output given_output place

-- ---- an event that the gateway has taken, behind which a watched row is silent or not: on the network, on the bus, and both

abbrev pub NetTakes : Step → Bool → Option NetKept → Option NetKept → Given 0 → Type 0
NetTakes t is_silent before after place =
    (silent : Silence) (n : Option NetHeartbeat) (c : Settings) (s : ℕ) (h : History) → IsStepped c s h t → maybe_stand net_stands n c s h before
    → is_silent ≡ silent h (entry_at t)
    → IsSaid (maybe_stand net_stands) (maybe_give (hbt_out silent)) given_output n c s h (entry_at t) after place

abbrev pub BusTakes : Step → Option BusKept → Option BusKept → Given 1 → Type 0
BusTakes t before after place =
    (every : Option ℕ) (c : Settings) (s : ℕ) (h : History) → IsStepped c s h t → maybe_stand bus_stands every c s h before
    → IsSaid (maybe_stand bus_stands) (maybe_give beat_out) given_output every c s h (entry_at t) after place

abbrev pub BeatsTake : Step → Bool → Heartbeats → Heartbeats → BeatPlace → Type 0
BeatsTake t is_silent before after place =
    (silent : Silence) (b : HeartbeatConfig) (c : Settings) (s : ℕ) (h : History) → IsStepped c s h t → beats_stand b c s h before
    → is_silent ≡ silent h (entry_at t) → IsSaid beats_stand (beats_give_by silent) beat_output b c s h (entry_at t) after place

-- ---- what is said on the network: HBT alone

abbrev pub hbt_says : Silence → NetHeartbeat → Settings → ℕ → History → Entry → Spoken
hbt_says silent n c s h e =
    if is_due n.every_s s h e then in_one (hbt_text n.talker n.every_s (is_well silent c s h e) (hbt_before n c s h)) else []

abbrev pub beats_say_by : Silence → HeartbeatConfig → Settings → ℕ → History → Entry → Spoken
beats_say_by silent b c s h e = maybe_say (hbt_says silent) b.net c s h e

pub record SpeaksBeats (b : HeartbeatConfig) (c : Settings) : Type 0 where
  pub sfi : IsSfi c.sfi
  pub net : ForSome b.net IsNetHeartbeat
