-- Rows under watch as a part beside the gateway, as one value.
use Rattle.std.proofs.Common.{◌≡◌, ℕ, ◌+◌, List, [], ◌∷◌, refl, subst}
use Rattle.std.specs.Prelude.{Option, Some, None}
use Rattle.std.specs.Option.{ForSome}
use Rattle.sentence_text.specs.Names.{IsSfi}
use Rattle.history.specs.EntryLaws.{nets_in}
use Rattle.config_values.specs.Rows.{IsTalker}
use Rattle.settings.specs.Setup.{gateway_of}
use Rattle.settings.specs.declared.watch.AlertConfig.{AlertConfig}
use Rattle.parts.specs.Compose.{maybe_speaks}
use Rattle.parts.specs.Utterances.{streamless, utters_datagrams}
use Rattle.parts.specs.Forms.{PartForm}
use Rattle.parts.specs.Voices.{EachSays, IsRead, IsUnderstood}
use Rattle.parts.proofs.Lines.{says_one}
use Rattle.parts.proofs.Speaking.{capitals}
use Rattle.row_watch.specs.Alert.{alert_text}
use Rattle.row_watch.specs.WatchKept.{Watch}
use Rattle.row_watch.specs.WatchOut.{Change, changes, changes_before, told}
use Rattle.row_watch.specs.WatchPart.{SpeaksWatch, alerts_place, alerts_say, watch_asked, watch_says}
use Rattle.row_watch.specs.WatchRule.{WatchRule, Watched, if_any, watch_rule}
use Rattle.row_watch.specs.WatchStands.{watch_gives, watch_stands}
use Rattle.row_watch.proofs.Commands.{watch_keeps_commands}
use Rattle.row_watch.proofs.Texts.{alerts_are_sentences}

-- each alert is read as its sentence
told_is_read : (sfi : List ℕ) (alerts : Option AlertConfig) (n : ℕ) (xs : List Change) → IsSfi sfi → ForSome alerts (λ a. IsTalker a.talker)
    → EachSays (nets_in (told sfi alerts n xs)) (alerts_say alerts xs)
told_is_read sfi None n [] is talker = tt
told_is_read sfi None n (x ∷ xs) is talker = told_is_read sfi None (n + 1) xs is talker
told_is_read sfi (Some a) n [] is talker = tt
told_is_read sfi (Some a) n (x ∷ xs) is talker =
    let two = (talker a refl).len in (
      says_one sfi n (alert_text a.talker x.row x.said) is (alerts_are_sentences a.talker x.row x.said two (capitals a.talker (talker a refl))),
      told_is_read sfi (Some a) (n + 1) xs is talker,
    )

pub watch_is_read : IsRead watch_gives SpeaksWatch watch_says
watch_is_read r c s h e speaks = told_is_read r.sfi r.alerts (changes_before c s r h) (changes c s r.rows h e) speaks.sfi speaks.talker

asked_is : (rows : List Watched) (rule q : WatchRule) → if_any rows rule ≡ Some q → rule ≡ q
asked_is [] rule q is = absurd cc
asked_is (w ∷ rows) rule q is = cc

pub understood : IsUnderstood watch_asked (maybe_speaks SpeaksWatch)
unfolding watch_rule
understood x typed valid = λ q is.
    let rule = watch_rule x.watch x.settings.config.sfi in
    subst (λ (r : WatchRule). SpeaksWatch r (gateway_of x)) (asked_is rule.rows rule q is)
    (record { sfi = typed.sfi; talker = λ a there. (valid.watch.alerts a there).talker })

abbrev pub row_watch : PartForm
row_watch = record {
  rule = WatchRule;
  asked = watch_asked;
  kept = Watch;
  places = alerts_place;
  stand = watch_stands;
  give = watch_gives;
  utter = streamless watch_gives;
  say = watch_says;
  speaks = SpeaksWatch;
  commands = watch_keeps_commands;
  read = watch_is_read;
  understood = understood;
  datagrams = utters_datagrams None watch_gives;
}
