-- Rows under watch and heartbeats as a part beside the gateway, as one value.
use Rattle.std.proofs.Common.{◌≡◌, subst}
use Rattle.std.specs.Prelude.{Option, Some, None}
use Rattle.settings.specs.Setup.{gateway_of}
use Rattle.settings.specs.declared.heartbeat.HeartbeatConfig.{HeartbeatConfig}
use Rattle.parts.specs.Compose.{maybe_give, maybe_keep_commands, maybe_read, maybe_say, maybe_speaks}
use Rattle.parts.specs.Utterances.{streamless, utters_datagrams}
use Rattle.parts.specs.Forms.{PartForm, and_behind, place}
use Rattle.parts.specs.PartSteps.{KeepsCommands}
use Rattle.parts.specs.Voices.{IsRead, IsUnderstood, both_say}
use Rattle.row_watch.specs.WatchPart.{SpeaksWatch, alerts_place, watch_asked, watch_says}
use Rattle.row_watch.specs.WatchRule.{WatchRule}
use Rattle.row_watch.specs.WatchStands.{watch_gives, watch_stands}
use Rattle.row_watch.proofs.Commands.{watch_keeps_commands}
use Rattle.row_watch.proofs.Form.{understood as watch_understood, watch_is_read}
use Rattle.heartbeats.specs.Beats.{SpeaksBeats, beats_asked, beats_give_by, beats_say_by, beats_stand}
use Rattle.heartbeats.proofs.BeatsAreRead.{beats_are_read}
use Rattle.heartbeats.proofs.Form.{keeps_commands as beats_keep_commands, understood as beats_understood}
use Rattle.supervision.specs.Supervised.{SpeaksSupervision, SupervisionRule, rule_of, silence_by, supervision_asked, supervision_gives, supervision_says, supervision_stands}
use Rattle.supervision.specs.declared.supervision.Supervision.{Supervision}

pub keeps_commands : KeepsCommands supervision_stands
keeps_commands r c s h source address k are is = (
  maybe_keep_commands watch_stands watch_keeps_commands r.watch c s h source address k.watch are is.0,
  maybe_keep_commands beats_stand beats_keep_commands r.beats c s h source address k.beats are is.1,
)

pub is_read : IsRead supervision_gives SpeaksSupervision supervision_says
is_read r c s h e speaks =
    let silent = silence_by r.watch c s in
    both_say (maybe_give watch_gives r.watch c s h e) (maybe_give (beats_give_by silent) r.beats c s h e) (maybe_say watch_says r.watch c s h e)
    (maybe_say (beats_say_by silent) r.beats c s h e) (maybe_read watch_gives SpeaksWatch watch_says watch_is_read r.watch c s h e speaks.0)
    (maybe_read (beats_give_by silent) SpeaksBeats (beats_say_by silent) (beats_are_read silent) r.beats c s h e speaks.1)

rows_are : (w : Option WatchRule) (b : Option HeartbeatConfig) (r : SupervisionRule) → rule_of w b ≡ Some r → w ≡ r.watch
rows_are None None r is = absurd cc
rows_are None (Some b) r is = cc
rows_are (Some w) b r is = cc

beats_are : (w : Option WatchRule) (b : Option HeartbeatConfig) (r : SupervisionRule) → rule_of w b ≡ Some r → b ≡ r.beats
beats_are None None r is = absurd cc
beats_are None (Some b) r is = cc
beats_are (Some w) b r is = cc

pub understood : IsUnderstood supervision_asked (maybe_speaks SpeaksSupervision)
understood x typed valid = λ r is. (
  subst (λ (w : Option WatchRule). maybe_speaks SpeaksWatch w (gateway_of x)) (rows_are (watch_asked x) (beats_asked x) r is) (watch_understood x typed valid),
  subst (λ (b : Option HeartbeatConfig). maybe_speaks SpeaksBeats b (gateway_of x)) (beats_are (watch_asked x) (beats_asked x) r is) (beats_understood x typed valid),
)

abbrev pub supervision : PartForm
supervision = record {
  rule = SupervisionRule;
  asked = supervision_asked;
  kept = Supervision;
  places = and_behind alerts_place (and_behind (place 0) (place 1));
  stand = supervision_stands;
  give = supervision_gives;
  utter = streamless supervision_gives;
  say = supervision_says;
  speaks = SpeaksSupervision;
  commands = keeps_commands;
  read = is_read;
  understood = understood;
  datagrams = utters_datagrams None supervision_gives;
}
