-- The legs of plotters are read.
use Rattle.std.proofs.Common.{◌≡◌, ℕ, ◌≤◌, ℤ, Bool, true, false, not, List, [], ◌∷◌, ◌++◌, length, Option, Some, None, refl, arith}
use Rattle.std.specs.Prelude.{codes, if◌then◌else◌}
use Rattle.std.specs.List.{AllByRecursion}
use Rattle.report_rules.specs.Rules.{short_message}
use Rattle.readings.specs.Ranges as ranges
use Rattle.readings.specs.Ranges.{Admits}
use Rattle.readings.specs.declared.reading.Reading.TheVariants as reading
use Rattle.sentence_text.specs.Names.{IsSfi}
use Rattle.sentence_fields.specs.ReadBack.{parts_by}
use Rattle.sentence_fields.proofs.Bodies.{is_read_back, sentence_fits}
use Rattle.sentence_profile.specs.Laws.{IsOneSentence}
use Rattle.sentence_profile.proofs.ShortSentences.{each_is_a_sentence}
use Rattle.claim_table.specs.declared.answer.Holder.{Holder}
use Rattle.config_values.specs.Rows.{IsTalker}
use Rattle.history.specs.Emits.{of_source}
use Rattle.history.specs.Entries.{Entry, History}
use Rattle.history.specs.EntryLaws.{nets_in}
use Rattle.history.specs.Messages.{Message, messages_of}
use Rattle.history.specs.Settings.{Settings}
use Rattle.parts.specs.Voices.{EachSays, behind_quiet}
use Rattle.parts.proofs.Speaking.{capitals}
use Rattle.bus_listener.specs.Heard.{heard_out}
use Rattle.bus_listener.proofs.NoDatagrams.{no_heard}
use Rattle.counted_lines.specs.CountedLines.{posted_of, spoken_of}
use Rattle.counted_lines.proofs.LinesAreRead.{only_sentences, posted_says}
use Rattle.navigation.specs.declared.leg.Leg.{Leg}
use Rattle.navigation.specs.Courses.{error_said}
use Rattle.navigation.specs.Legs.{IsLeg, is_short_leg, kind_of, leg_in}
use Rattle.navigation.specs.NavOut.{error_beside, holders_at, is_said, lines_said, message_breaks, nav_done, nav_out, nav_receiver, nav_says, short_told, texts_at, texts_in, texts_of}
use Rattle.navigation.specs.NavPart.{SpeaksNav}
use Rattle.navigation.specs.NavRule.{NavRule}
use Rattle.navigation.specs.Sentences.{apb, apb_text, leg_texts, rmb, rmb_text, xte_text}
use Rattle.navigation.proofs.LegRanges.{error_ranged, in_ranges}
use Rattle.navigation.proofs.Printable.{apb_printable, apb_short, rmb_printable, rmb_short}

module _ (talker : List ℕ) (is : IsTalker talker) (leg : Leg) (error : Option ℤ) where
  rmb_is : IsLeg leg → IsOneSentence (rmb_text talker leg error)
  rmb_is sound =
      let fields = rmb leg error in
      record {
        parts = parts_by talker (codes "RMB") fields;
        is_read = (is_read_back talker (codes "RMB") fields is.len refl (capitals talker is) refl (rmb_printable leg error sound) (rmb_short leg error)).is_sentence;
        short = sentence_fits talker (codes "RMB") fields is.len refl (rmb_printable leg error sound) (rmb_short leg error);
      }

  apb_is : IsOneSentence (apb_text talker leg error)
  apb_is =
      let fields = apb leg error in
      record {
        parts = parts_by talker (codes "APB") fields;
        is_read = (is_read_back talker (codes "APB") fields is.len refl (capitals talker is) refl (apb_printable leg error) (apb_short leg error)).is_sentence;
        short = sentence_fits talker (codes "APB") fields is.len refl (apb_printable leg error) (apb_short leg error);
      }

  xte_is : Admits ranges.cross_track error → IsOneSentence (xte_text talker error)
  xte_is ranged = (each_is_a_sentence talker false (reading.CrossTrack error) is.len (capitals talker is) (ranged, tt)).0

  are_sentences : IsLeg leg → Admits ranges.cross_track error → AllByRecursion IsOneSentence (leg_texts talker leg error)
  are_sentences sound ranged =
      only_sentences (not leg.magnetic) (rmb_text talker leg error) (apb_text talker leg error ∷ xte_text talker error ∷ []) (rmb_is sound) (apb_is, (xte_is ranged, tt))

  few_texts : length (leg_texts talker leg error) ≤ 9
  few_texts = by leg.magnetic
    where
      by : (b : Bool) → length ((if not b then rmb_text talker leg error ∷ [] else []) ++ (apb_text talker leg error ∷ xte_text talker error ∷ [])) ≤ 9
      by true = omega arith
      by false = omega arith

said_ranged : (o : Option Message) → Admits ranges.cross_track (error_said o)
said_ranged None = tt
said_ranged (Some d) = error_ranged d.payload

module _ (x : NavRule) (group source : List ℕ) (before : ℕ) (sfi : IsSfi source) (talker : IsTalker x.talker) where
  leg_says : (holders : List (Option Holder)) (older : List Message) (d : Message)
      → EachSays (nets_in (posted_of group source before (texts_of x holders older d))) (spoken_of (texts_of x holders older d))
  leg_says holders older d = by (is_said x holders older d)
    where
      leg : Leg
      leg = leg_in d.payload

      error : Option ℤ
      error = error_said (error_beside x holders older d)

      by : (b : Bool) → let texts = if b then leg_texts x.talker leg error else [] in EachSays (nets_in (posted_of group source before texts)) (spoken_of texts)
      by true =
          posted_says group source before (leg_texts x.talker leg error) sfi (few_texts x.talker talker leg error)
          (are_sentences x.talker talker leg error (in_ranges d.payload) (said_ranged (error_beside x holders older d)))
      by false = tt

  texts_say : (c : Settings) (s : ℕ) (h : History) (o : Option Message)
      → EachSays (nets_in (posted_of group source before (texts_in x c s h o))) (spoken_of (texts_in x c s h o))
  texts_say c s h None = tt
  texts_say c s h (Some d) = leg_says (holders_at x c s h) (messages_of (nav_receiver x c) s h) d

short_quiet : (d : Message) → nets_in (short_told d) ≡ []
short_quiet d = by (is_short_leg d)
  where
    by : (b : Bool) → nets_in (if b then of_source short_message d.source d.pgn ∷ [] else []) ≡ []
    by true = refl
    by false = refl

no_breaks : (o : Option Message) → nets_in (message_breaks o) ≡ []
no_breaks None = refl
no_breaks (Some d) = short_quiet d

pub nav_is_read : (x : NavRule) (c : Settings) (s : ℕ) (h : History) (e : Entry) → SpeaksNav x c → EachSays (nets_in (nav_out x c s h e)) (nav_says x c s h e)
nav_is_read x c s h e speaks =
    let breaks = message_breaks (nav_done x c s h e) in
    let posted = posted_of x.group c.sfi (lines_said x c s h) (texts_at x c s h e) in
    behind_quiet (heard_out kind_of x.slots c s h e) (breaks ++ posted) (nav_says x c s h e) (no_heard kind_of x.slots c s h e)
    (behind_quiet breaks posted (nav_says x c s h e) (no_breaks (nav_done x c s h e))
    (texts_say x x.group c.sfi (lines_said x c s h) speaks.sfi speaks.talker c s h (nav_done x c s h e)))
