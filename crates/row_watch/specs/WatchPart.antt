-- Rows under watch as a part beside the gateway.
use Rattle.std.specs.Prelude.{ℕ, List, [], ◌∷◌, Option, Some, None}
use Rattle.std.specs.Option.{ForSome}
use Rattle.sentence_text.specs.Names.{IsSfi}
use Rattle.history.specs.Entries.{Entry, History}
use Rattle.history.specs.Settings.{Settings}
use Rattle.config_values.specs.Rows.{IsTalker}
use Rattle.settings.specs.declared.setup.Setup.{Setup}
use Rattle.settings.specs.declared.watch.AlertConfig.{AlertConfig}
use Rattle.parts.specs.Forms.{PlaceForm}
use Rattle.parts.specs.Voices.{Spoken}
use Rattle.row_watch.specs.Alert.{alert_text}
use Rattle.row_watch.specs.Alerts.{alerts_output, alerts_plain, alerts_unsaid, alerts_utterances}
use Rattle.row_watch.specs.declared.alerts.Alerts.{Alerts}
use Rattle.row_watch.specs.WatchOut.{Change, changes}
use Rattle.row_watch.specs.WatchRule.{WatchRule, asked}

abbrev pub alerts_place : PlaceForm
alerts_place = record { kept = Alerts; output = alerts_output; plain = alerts_plain; utterances = alerts_utterances; unsaid = alerts_unsaid }

abbrev pub watch_asked : Setup → Option WatchRule
watch_asked x = asked x.watch x.settings.config.sfi

-- ---- what is said on the network: an alert of each change, if alerts are said

abbrev pub alerts_say : Option AlertConfig → List Change → Spoken
alerts_say None xs = []
alerts_say (Some a) [] = []
alerts_say (Some a) (x ∷ more) = (alert_text a.talker x.row x.said ∷ []) ∷ alerts_say (Some a) more

abbrev pub watch_says : WatchRule → Settings → ℕ → History → Entry → Spoken
watch_says r c s h e = alerts_say r.alerts (changes c s r.rows h e)

pub record SpeaksWatch (r : WatchRule) (c : Settings) : Type 0 where
  pub sfi : IsSfi r.sfi
  pub talker : ForSome r.alerts (λ a. IsTalker a.talker)
