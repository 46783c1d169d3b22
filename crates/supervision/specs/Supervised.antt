-- Rows under watch, and heartbeats behind them, over everything that ever came: a heartbeat says V while a watched row is silent.
use Rattle.std.specs.Prelude.{◌≡◌, ℕ, Bool, false, List, ◌∷◌, ◌++◌, Option, Some, None}
use Rattle.gate_events.specs.Emit.{Emit}
use Rattle.history.specs.Entries.{Entry, History}
use Rattle.history.specs.Settings.{Settings}
use Rattle.settings.specs.declared.heartbeat.HeartbeatConfig.{HeartbeatConfig}
use Rattle.settings.specs.declared.setup.Setup.{Setup}
use Rattle.parts.specs.Compose.{maybe_give, maybe_say, maybe_speaks, maybe_stand}
use Rattle.parts.specs.PartSteps.{IsSaid, IsStepped, entry_at}
use Rattle.parts.specs.Voices.{Spoken}
use Rattle.parts.specs.declared.part.Step.{Step}
use Rattle.row_watch.specs.WatchKept.{Watch}
use Rattle.row_watch.specs.WatchOut.{any_silent}
use Rattle.row_watch.specs.WatchPart.{SpeaksWatch, watch_asked, watch_says}
use Rattle.row_watch.specs.WatchRule.{WatchRule}
use Rattle.row_watch.specs.WatchStands.{watch_gives, watch_stands}
use Rattle.heartbeats.specs.Beats.{BeatPlace, Silence, SpeaksBeats, beat_output, beats_asked, beats_give_by, beats_say_by, beats_stand}
use Rattle.heartbeats.specs.declared.heartbeats.Heartbeats.{Heartbeats}
use Rattle.supervision.specs.declared.supervision.Supervision.{Supervision}

pub record SupervisionRule : Type 0 where
  pub watch : Option WatchRule
  pub beats : Option HeartbeatConfig

-- there is something to supervise by if a file asks for one of the two
abbrev pub rule_of : Option WatchRule → Option HeartbeatConfig → Option SupervisionRule
rule_of None None = None
rule_of None (Some b) = Some (record { watch = None; beats = Some b })
rule_of (Some w) beats = Some (record { watch = Some w; beats = beats })

abbrev pub supervision_asked : Setup → Option SupervisionRule
supervision_asked x = rule_of (watch_asked x) (beats_asked x)

abbrev pub joined_by : Option Watch → Option Heartbeats → Option Supervision
joined_by None None = None
joined_by None (Some b) = Some (record { watch = None; beats = Some b })
joined_by (Some w) beats = Some (record { watch = Some w; beats = beats })

-- ---- whether a watched row is silent

-- after a history
abbrev pub is_one_silent : Option WatchRule → Settings → ℕ → History → Bool
is_one_silent None c s h = false
is_one_silent (Some r) c s h = any_silent c s r h

-- behind an entry
abbrev pub silence_by : Option WatchRule → Settings → ℕ → Silence
silence_by r c s h e = is_one_silent r c s (e ∷ h)

-- what is kept of the rows tells it
abbrev pub TellsIfSilent : Option Watch → Bool → Type 0
TellsIfSilent k silent =
    (r : Option WatchRule) (c : Settings) (s : ℕ) (h : History) → maybe_stand watch_stands r c s h k → silent ≡ is_one_silent r c s h

-- ---- what is kept, given and said

abbrev pub supervision_stands : SupervisionRule → Settings → ℕ → History → Supervision → Type 0
supervision_stands r c s h k = maybe_stand watch_stands r.watch c s h k.watch × maybe_stand beats_stand r.beats c s h k.beats

abbrev pub supervision_gives : SupervisionRule → Settings → ℕ → History → Entry → List Emit
supervision_gives r c s h e = maybe_give watch_gives r.watch c s h e ++ maybe_give (beats_give_by (silence_by r.watch c s)) r.beats c s h e

abbrev pub supervision_says : SupervisionRule → Settings → ℕ → History → Entry → Spoken
supervision_says r c s h e = maybe_say watch_says r.watch c s h e ++ maybe_say (beats_say_by (silence_by r.watch c s)) r.beats c s h e

abbrev pub SpeaksSupervision : SupervisionRule → Settings → Type 0
SpeaksSupervision r c = maybe_speaks SpeaksWatch r.watch c × maybe_speaks SpeaksBeats r.beats c

-- ---- an event that the gateway has taken, behind which a watched row is silent or not, for heartbeats that are there exactly if they are asked for

abbrev pub AskedBeatsTake : Step → Bool → Option Heartbeats → Option Heartbeats → BeatPlace → Type 0
AskedBeatsTake t is_silent before after place =
    (silent : Silence) (b : Option HeartbeatConfig) (c : Settings) (s : ℕ) (h : History) → IsStepped c s h t → maybe_stand beats_stand b c s h before
    → is_silent ≡ silent h (entry_at t)
    → IsSaid (maybe_stand beats_stand) (maybe_give (beats_give_by silent)) beat_output b c s h (entry_at t) after place
