-- Further quantities are read.
use Rattle.std.proofs.Common.{◌≡◌, ℕ, ◌+◌, Bool, true, false, List, [], ◌∷◌, ◌++◌, length, map, refl, sym, ap, ◌∙◌}
use Rattle.std.specs.Prelude.{Option, Some, None, IsTrue, filter, if◌then◌else◌}
use Rattle.std.specs.List.{AllByRecursion, list_all}
use Rattle.quantities.specs.Told.{GivesFrom, IsAnyFrom, IsFrom, entries, kind_of, told}
use Rattle.quantities.specs.declared.value.Told.{Told}
use Rattle.quantities.specs.declared.value.Told.TheVariants as tells
use Rattle.quantities.specs.declared.value.Value.{Value}
use Rattle.quantities.specs.Layout.{layout_of}
use Rattle.quantities.specs.Saying.{parts_in, sentence_of}
use Rattle.quantities.proofs.InRange.{in_range}
use Rattle.quantities.proofs.Sayings.{form}
use Rattle.sentence_text.specs.Byte.{is_capital}
use Rattle.sentence_text.specs.Names.{IsSfi}
use Rattle.sentence_profile.specs.Laws.{IsOneSentence}
use Rattle.history.specs.Entries.{Entry, History, moment_of}
use Rattle.history.specs.EntryLaws.{nets_in}
use Rattle.history.specs.Known.{known}
use Rattle.history.specs.Messages.{Message, messages_of}
use Rattle.history.specs.Settings.{Settings}
use Rattle.history.specs.Emits.{of_source}
use Rattle.history.proofs.EntrySteps.{if_none, nets_append}
use Rattle.report_rules.specs.Rules.{short_message}
use Rattle.bus_listener.specs.Heard.{heard_out}
use Rattle.bus_listener.specs.Kinds.{is_told}
use Rattle.further_bridge.specs.FurtherOut.{all_in, further_done, further_out, further_receiver, further_utters, has_voice, is_row_said, is_selected, lines_said, magnetic_in, message_breaks, number_in, said_at, said_gives, said_utters, selected_in, short_gives, that_are_there, value_datagram, values_of}
use Rattle.further_bridge.specs.FurtherRule.{FurtherRule, talker_at}
use Rattle.gate_events.specs.Emit.{Emit}
use Rattle.parts.specs.Utterances.{SaysDatagrams, bytes_in, bytes_of}
use Rattle.parts.specs.Voices.{EachSays, behind_quiet}
use Rattle.parts.proofs.Lines.{says_one}
use Rattle.parts.proofs.Speaking.{capitals}
use Rattle.bus_listener.proofs.NoDatagrams.{no_heard}
use Rattle.config_values.specs.Rows.{IsTalker}
use Rattle.quantities.specs.About.{number_of}
use Rattle.quantities.specs.declared.about.Quantity.{Quantity}
use Rattle.further_bridge.specs.FurtherPart.{SpeaksQuantities, quantities_say, value_says}

-- ---- what is said are values of the table

abbrev AreKnown : List Value → Type 0
AreKnown values = AllByRecursion (IsFrom entries) values

known_there : (values : List (Option Value)) → AllByRecursion (IsAnyFrom entries) values → AreKnown (that_are_there values)
known_there [] are = tt
known_there (None ∷ values) are = known_there values are.1
known_there (Some v ∷ values) are = (are.0, known_there values are.1)

known_in : (x : Told) → GivesFrom entries x → AreKnown (that_are_there (all_in x))
known_in (tells.Values values) are = known_there values are
known_in tells.Outside are = tt
known_in tells.Short are = tt

known_among : (p : Value → Bool) (values : List Value) → AreKnown values → AreKnown (filter p values)
known_among p [] are = tt
known_among p (v ∷ values) are = by (p v) (known_among p values are.1)
  where
    by : (b : Bool) → AreKnown (filter p values) → AreKnown (if b then v ∷ filter p values else filter p values)
    by true rest = (are.0, rest)
    by false rest = rest

selected_known : (x : FurtherRule) (c : Settings) (s : ℕ) (h : History) (o : Option Message) → AreKnown (selected_in x c s h o)
selected_known x c s h None = tt
selected_known x c s h (Some d) = let r = further_receiver x c in
    known_among (is_selected x (known r s h).claims.holders (messages_of r s h) d) (values_of d) (known_in (told d.pgn d.payload) (in_range entries d.pgn d.payload))

-- ---- a value in one sentence

value_sentence : (twin : Bool) (talker : List ℕ) (v : Value) → IsFrom entries v → length talker ≡ 2 → IsTrue (list_all is_capital talker)
    → IsOneSentence (sentence_of twin talker v)
value_sentence twin talker v is two capital =
    let said = form twin v talker two capital is in
    record { parts = parts_in (layout_of twin v.quantity) talker v.values; is_read = said.is_sentence; short = said.short }

module _ (x : FurtherRule) (sfi : List ℕ) (form_is : IsSfi sfi) (speaks : (q : Quantity) → IsTalker (talker_at x (number_of q))) where
  values_are_read : (before : ℕ) (values : List Value) → AreKnown values → EachSays (nets_in (said_gives x sfi before values)) (map (value_says x) values)
  unfolding value_datagram
  values_are_read before [] are = tt
  values_are_read before (v ∷ values) are =
      let talker = talker_at x (number_in v) in
      let is_talker = speaks v.quantity in
      let one = value_sentence x.twin talker v are.0 is_talker.len (capitals talker is_talker) in
      (says_one sfi before (sentence_of x.twin talker v) form_is one, values_are_read (before + 1) values are.1)

no_short : (source pgn : ℕ) (x : Told) → nets_in (short_gives source pgn x) ≡ []
no_short source pgn (tells.Values values) = refl
no_short source pgn tells.Outside = refl
no_short source pgn tells.Short = if_none (is_told pgn) (of_source short_message source pgn ∷ []) [] refl refl

no_breaks : (o : Option Message) → nets_in (message_breaks o) ≡ []
no_breaks None = refl
no_breaks (Some d) = no_short d.source d.pgn (told d.pgn d.payload)

pub quantities_are_read : (x : FurtherRule) (c : Settings) (s : ℕ) (h : History) (e : Entry) → SpeaksQuantities x c
    → EachSays (nets_in (further_out x c s h e)) (quantities_say x c s h e)
quantities_are_read x c s h e speaks =
    let breaks = message_breaks (further_done x c s h e) in
    let gives = said_gives x c.sfi (lines_said x c s h) (said_at x c s h e) in
    let known = known_among (has_voice (is_row_said c s (e ∷ h) (moment_of e))) (selected_in x c s h (further_done x c s h e)) (selected_known x c s h (further_done x c s h e)) in
    let says = values_are_read x c.sfi speaks.sfi speaks.talkers (lines_said x c s h) (said_at x c s h e) known in
    behind_quiet (heard_out kind_of x.slots c s h e) (breaks ++ gives) (quantities_say x c s h e) (no_heard kind_of x.slots c s h e)
    (behind_quiet breaks gives (quantities_say x c s h e) (no_breaks (further_done x c s h e)) says)

-- ---- what is said with its stream are the datagrams of all that is given

same_datagrams : (x : FurtherRule) (magnetic : Bool) (sfi : List ℕ) (before : ℕ) (values : List Value)
    → bytes_of (said_utters x magnetic sfi before values) ≡ bytes_in (said_gives x sfi before values)
same_datagrams x magnetic sfi before [] = refl
same_datagrams x magnetic sfi before (v ∷ values) =
    ap (λ more. value_datagram x.twin sfi (talker_at x (number_in v)) before v ∷ more) (same_datagrams x magnetic sfi (before + 1) values)

behind_none : (a b : List Emit) → nets_in a ≡ [] → bytes_in (a ++ b) ≡ bytes_in b
behind_none a b none = ap (λ ds. map (λ d. d.1) ds) (nets_append a b) ∙ ap (λ ds. map (λ d. d.1) (ds ++ nets_in b)) none

pub quantities_say_datagrams : SaysDatagrams further_out further_utters
quantities_say_datagrams x c s h e =
    let breaks = message_breaks (further_done x c s h e) in
    let gives = said_gives x c.sfi (lines_said x c s h) (said_at x c s h e) in
    same_datagrams x (magnetic_in (further_done x c s h e)) c.sfi (lines_said x c s h) (said_at x c s h e)
    ∙ sym (behind_none (heard_out kind_of x.slots c s h e) (breaks ++ gives) (no_heard kind_of x.slots c s h e)
    ∙ behind_none breaks gives (no_breaks (further_done x c s h e)))
