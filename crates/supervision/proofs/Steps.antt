-- What an event makes of rows under watch and of heartbeats, put together.
use Rattle.std.proofs.Common.{Bool, List, ◌∷◌, ◌++◌, ap, ◌∙◌}
use Rattle.std.specs.Prelude.{Option, Some, None}
use Rattle.gate_events.specs.Emit.{Emit}
use Rattle.history.specs.Settings.{Settings}
use Rattle.settings.specs.declared.heartbeat.HeartbeatConfig.{HeartbeatConfig}
use Rattle.parts.specs.Compose.{both_output, maybe_give, maybe_stand}
use Rattle.parts.specs.PartSteps.{IsOpened, Says, entry_at}
use Rattle.parts.specs.declared.part.Step.{Step}
use Rattle.row_watch.specs.Alerts.{alerts_output}
use Rattle.row_watch.specs.WatchKept.{Watch}
use Rattle.row_watch.specs.WatchRule.{WatchRule}
use Rattle.row_watch.specs.WatchStands.{watch_gives, watch_stands}
use Rattle.row_watch.specs.declared.alerts.Alerts.{Alerts}
use Rattle.heartbeats.specs.Beats.{BeatPlace, BeatsTake, beat_output, beats_stand}
use Rattle.heartbeats.specs.declared.heartbeats.Heartbeats.{Heartbeats}
use Rattle.supervision.specs.Supervised.{AskedBeatsTake, TellsIfSilent, joined_by, rule_of, silence_by, supervision_gives, supervision_stands}
use Rattle.supervision.specs.declared.supervision.Supervision.{Supervision}

pub supervises : (t : Step) (before : Supervision) (watch : Option Watch) (beats : Option Heartbeats) (silent : Bool) (alerts : Alerts) (beat : BeatPlace)
    → Says (maybe_stand watch_stands) (maybe_give watch_gives) alerts_output t before.watch watch alerts → TellsIfSilent watch silent
    → AskedBeatsTake t silent before.beats beats beat
    → Says supervision_stands supervision_gives (both_output alerts_output beat_output) t before (record { watch = watch; beats = beats }) (alerts, beat)
supervises t before watch beats silent alerts beat told tells given r c s h step stands =
    let e = entry_at t in
    let rows = told r.watch c s h step stands.0 in
    let silence = silence_by r.watch c s in
    let is = tells r.watch c s (e ∷ h) rows.stood in
    let hbt = given silence r.beats c s h step stands.1 is in
    record {
      stood = (rows.stood, hbt.stood);
      emits = ap (λ (es : List Emit). es ++ beat_output beat) rows.emits ∙ ap (λ (es : List Emit). maybe_give watch_gives r.watch c s h e ++ es) hbt.emits;
    }

-- heartbeats that take an event take it where they are asked for
pub asked_beats_take : (t : Step) (is_silent : Bool) (before after : Heartbeats) (place : BeatPlace) → BeatsTake t is_silent before after place
    → AskedBeatsTake t is_silent (Some before) (Some after) place
asked_beats_take t is_silent before after place take silent None c s h step stands same = absurd stands
asked_beats_take t is_silent before after place take silent (Some b) c s h step stands same =
    let said = take silent b c s h step stands same in
    record { stood = said.stood; emits = said.emits }

pub both_opened : (w : Option WatchRule) (b : Option HeartbeatConfig) (c : Settings) (watch : Option Watch) (beats : Option Heartbeats)
    → IsOpened (maybe_stand watch_stands) w c watch → IsOpened (maybe_stand beats_stand) b c beats
    → IsOpened (maybe_stand supervision_stands) (rule_of w b) c (joined_by watch beats)
both_opened None None c None None rows hbt = λ s. tt
both_opened None None c None (Some k) rows hbt = λ s. hbt s
both_opened None None c (Some k) beats rows hbt = λ s. rows s
both_opened None (Some b) c None None rows hbt = λ s. hbt s
both_opened None (Some b) c None (Some k) rows hbt = λ s. (tt, hbt s)
both_opened None (Some b) c (Some k) beats rows hbt = λ s. (rows s, hbt s)
both_opened (Some w) b c None None rows hbt = λ s. rows s
both_opened (Some w) b c None (Some k) rows hbt = λ s. (rows s, hbt s)
both_opened (Some w) b c (Some k) beats rows hbt = λ s. (rows s, hbt s)
