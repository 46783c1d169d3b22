-- Joined headings are read.
use Rattle.std.proofs.Common.{◌≡◌, ℕ, ◌+◌, ◌≤◌, ℤ, Bool, true, false, IsTrue, List, [], ◌∷◌, ◌++◌, length, refl, ap, subst, ◌∙◌, arith}
use Rattle.std.proofs.lemmas.Int.{ints}
use Rattle.std.specs.Prelude.{codes, not, Option, Some, None, IfSome, if◌then◌else◌}
use Rattle.std.specs.List.{AllByRecursion, list_all}
use Rattle.report_rules.specs.Rules.{short_message}
use Rattle.readings.specs.Numbers.{signed_at}
use Rattle.readings.specs.Ranges as ranges
use Rattle.readings.specs.Ranges.{Admits}
use Rattle.readings.specs.Rows.{IsValid}
use Rattle.readings.specs.declared.range.Range.{Range}
use Rattle.readings.specs.declared.reading.Reading.{Reading}
use Rattle.readings.specs.declared.reading.Reading.TheVariants as reading
use Rattle.readings.specs.declared.rows.Row.TheVariants as row
use Rattle.sentence_text.specs.Byte.{is_address_byte, is_field_byte}
use Rattle.sentence_fields.specs.Field.{IsPrintable, sentence_by}
use Rattle.sentence_fields.specs.ReadBack.{parts_by}
use Rattle.sentence_fields.proofs.Bodies.{is_read_back, sentence_fits}
use Rattle.sentence_profile.specs.Laws.{IsOneSentence}
use Rattle.sentence_profile.proofs.ShortSentences.{each_is_a_sentence}
use Rattle.pgn_profile.specs.Part.{available, largest_signed, signed_from}
use Rattle.history.specs.Entries.{Entry, History, moment_of}
use Rattle.history.specs.EntryLaws.{nets_in}
use Rattle.history.specs.Known.{known}
use Rattle.history.specs.Messages.{Message, messages_of}
use Rattle.history.specs.Emits.{of_source}
use Rattle.history.specs.Subjects.{is_selected}
use Rattle.history.specs.Settings.{Settings, receiver_of}
use Rattle.parts.specs.Selected.{Selected, selected_at}
use Rattle.parts.specs.Voices.{EachSays, behind_quiet}
use Rattle.parts.proofs.Speaking.{capitals}
use Rattle.config_values.specs.Rows.{IsTalker}
use Rattle.sentence_text.specs.Names.{IsSfi}
use Rattle.joined_rmc.specs.Lasting.{still_held}
use Rattle.joined_rmc.specs.RmcOut.{variation_in}
use Rattle.joined_rmc.proofs.RmcIsRead.{SaysValid, at_valid, newer_valid, still_valid, variation_valid, with_valid, within_valid}
use Rattle.bus_listener.specs.Heard.{heard_out}
use Rattle.bus_listener.proofs.NoDatagrams.{no_heard}
use Rattle.counted_lines.specs.CountedLines.{only_where, posted_of, spoken_of}
use Rattle.counted_lines.proofs.LinesAreRead.{only_sentences, posted_says}
use Rattle.joined_heading.proofs.Tenths.{tenths_small}
use Rattle.joined_heading.specs.declared.magnetic.MagneticHeading.{MagneticHeading}
use Rattle.joined_heading.specs.HeadingOut.{heading_out, heading_says, is_measured, lines_said, magnetic_in, magnetic_of, message_breaks, or_other, short_told, texts_at, texts_of}
use Rattle.joined_heading.specs.HeadingPart.{SpeaksHeading}
use Rattle.joined_heading.specs.HeadingRule.{HeadingRule}
use Rattle.joined_heading.specs.Sentences.{hdg_text, hdm_text, hdt_text, heading_field, heading_texts, magnetic_sum, north, true_sum}
use Rattle.joined_heading.specs.Variations.{chosen_variation, is_short, kind_of, last_variation, lasting_variation, variation_alone, variation_at, variation_done, variation_of, variation_receiver, variation_told}

-- ---- the sentences are sentences

field_printable : (raw : Option ℤ) → IsPrintable (heading_field raw)
field_printable None = (refl, tt)
field_printable (Some raw) = (refl, tenths_small raw)

north_is_a_sentence : (talker formatter : List ℕ) (raw : Option ℤ) (letter : ℕ) → IsTalker talker → length formatter ≡ 3
    → IsTrue (list_all is_address_byte formatter) → IsTrue (is_field_byte letter) → IsOneSentence (sentence_by talker formatter (north raw letter))
north_is_a_sentence talker formatter raw letter is three address printable =
    let fields = north raw letter in
    let all : AllByRecursion IsPrintable fields = (field_printable raw, (printable, tt)) in
    record {
      parts = parts_by talker formatter fields;
      is_read = (is_read_back talker formatter fields is.len three (capitals talker is) address all (omega arith)).is_sentence;
      short = sentence_fits talker formatter fields is.len three all (omega arith);
    }

hdg_is_a_sentence : (talker : List ℕ) (a : MagneticHeading) → IsTalker talker → IsValid (reading.HeadingMagnetic a.heading a.deviation a.variation)
    → IsOneSentence (hdg_text talker a)
hdg_is_a_sentence talker a is valid =
    (each_is_a_sentence talker false (reading.HeadingMagnetic a.heading a.deviation a.variation) is.len (capitals talker is) valid).0

only_last : (said : Bool) (text : List ℕ) → IsOneSentence text → AllByRecursion IsOneSentence (only_where said text)
only_last true text is = (is, tt)
only_last false text is = tt

few_texts : (talker : List ℕ) (hdm computed : Bool) (a : MagneticHeading) → length (heading_texts talker hdm computed a) ≤ 9
few_texts talker true true a = omega arith
few_texts talker true false a = omega arith
few_texts talker false true a = omega arith
few_texts talker false false a = omega arith

are_sentences : (talker : List ℕ) (hdm computed : Bool) (a : MagneticHeading) → IsTalker talker
    → IsValid (reading.HeadingMagnetic a.heading a.deviation a.variation) → AllByRecursion IsOneSentence (heading_texts talker hdm computed a)
are_sentences talker hdm computed a is valid = (
  hdg_is_a_sentence talker a is valid,
  only_sentences hdm (hdm_text talker a) (only_where computed (hdt_text talker a))
      (north_is_a_sentence talker (codes "HDM") (magnetic_sum a.heading a.deviation) 77 is refl refl refl)
      (only_last computed (hdt_text talker a) (north_is_a_sentence talker (codes "HDT") (true_sum (magnetic_sum a.heading a.deviation) a.variation) 84 is refl refl refl)),
)

-- ---- what is said is valid

available_in : (largest : ℤ) (range : Range) (v : ℤ) → Admits range (available largest range v)
available_in largest range v = grind (arith, ints)

variation_ranged : (o : Option ℤ) → Admits ranges.deviation (signed_from 2 ranges.deviation o)
variation_ranged None = tt
variation_ranged (Some v) = available_in (largest_signed 2) ranges.deviation v

module _ (x : HeadingRule) (c : Settings) (s : ℕ) where
  chosen_valid : (h : History) (o : Option Message) → IfSome (chosen_variation x c s h o) IsValid
  chosen_valid h None = tt
  chosen_valid h (Some d) =
      by (is_selected variation_told (λ subject. x.taken) (known (variation_receiver c) s h).claims.holders (messages_of (variation_receiver c) s h) d)
    where
      by : (b : Bool) → IfSome (if b then Some (variation_alone (variation_of d.payload)) else None) IsValid
      by true = (tt, (tt, (variation_ranged (signed_at d.payload 4 2), tt)))
      by false = tt

  last_valid : (h : History) → SaysValid (last_variation x c s h)
  last_valid [] = tt
  last_valid (e ∷ h) =
      newer_valid row.HeadingMagnetic (variation_at x c s h e) (last_variation x c s h)
      (with_valid (variation_done x c s h e) (chosen_variation x c s h (variation_done x c s h e)) (chosen_valid h (variation_done x c s h e))) (last_valid h)

  lasting_valid : (h : History) (m : ℕ) → IfSome (lasting_variation x c s h m) IsValid
  lasting_valid h m =
      within_valid x.taken.timeout m (still_held (known (receiver_of c) s h).claims.holders (last_variation x c s h))
      (still_valid (known (receiver_of c) s h).claims.holders (last_variation x c s h) (last_valid h))

with_valid_other : (other : Option ℤ) (h d v : Option ℤ) → Admits ranges.deviation other → IsValid (reading.HeadingMagnetic h d v)
    → IsValid (reading.HeadingMagnetic h d (or_other v other))
with_valid_other other h d None ranged valid = (valid.0, (valid.1.0, (ranged, tt)))
with_valid_other other h d (Some v) ranged valid = valid

-- ---- the datagram

texts_say : (x : HeadingRule) (measured : Bool) (other : Option ℤ) (r : Option Selected) (group source : List ℕ) (before : ℕ) → IsSfi source → IsTalker x.talker
    → Admits ranges.deviation other → SaysValid r
    → EachSays (nets_in (posted_of group source before (texts_of x measured other (magnetic_in r)))) (spoken_of (texts_of x measured other (magnetic_in r)))
texts_say x measured other None group source before sfi talker ranged valid = tt
texts_say x measured other (Some y) group source before sfi talker ranged valid = by y.reading valid
  where
    by : (r : Reading) → IsValid r
        → EachSays (nets_in (posted_of group source before (texts_of x measured other (magnetic_of r)))) (spoken_of (texts_of x measured other (magnetic_of r)))
    by (reading.HeadingMagnetic h d v) valid =
        let a : MagneticHeading = record { heading = h; deviation = d; variation = or_other v other } in
        posted_says group source before (heading_texts x.talker x.hdm (not measured) a) sfi (few_texts x.talker x.hdm (not measured) a)
        (are_sentences x.talker x.hdm (not measured) a talker (with_valid_other other h d v ranged valid))
    by _ valid = tt

short_quiet : (d : Message) → nets_in (short_told d) ≡ []
short_quiet d = by (is_short d.payload)
  where
    by : (b : Bool) → nets_in (if b then of_source short_message d.source d.pgn ∷ [] else []) ≡ []
    by true = refl
    by false = refl

pub no_breaks : (o : Option Message) → nets_in (message_breaks o) ≡ []
no_breaks None = refl
no_breaks (Some d) = short_quiet d

pub heading_is_read : (x : HeadingRule) (c : Settings) (s : ℕ) (h : History) (e : Entry) → SpeaksHeading x c
    → EachSays (nets_in (heading_out x c s h e)) (heading_says x c s h e)
heading_is_read x c s h e speaks =
    let m = moment_of e in
    let breaks = message_breaks (variation_done x c s h e) in
    let posted = posted_of x.group c.sfi (lines_said x c s h) (texts_at x c s h e) in
    let other = lasting_variation x c s (e ∷ h) m in
    behind_quiet (heard_out kind_of 0 c s h e) (breaks ++ posted) (heading_says x c s h e) (no_heard kind_of 0 c s h e)
    (behind_quiet breaks posted (heading_says x c s h e) (no_breaks (variation_done x c s h e))
    (texts_say x (is_measured c s (e ∷ h) m) (variation_in other) (selected_at c s h e) x.group c.sfi (lines_said x c s h) speaks.sfi speaks.talker
    (variation_valid other (lasting_valid x c s (e ∷ h) m)) (at_valid c s h e)))
