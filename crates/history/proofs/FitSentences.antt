-- How much a sentence emits at most.
use Rattle.std.proofs.Common.{◌≡◌, ℕ, zero, suc, ◌+◌, ◌≤◌, Bool, true, false, ◌==◌, List, [], ◌∷◌, ◌++◌, length, length-append, refl, ap, ◌∙◌, arith}
use Rattle.std.specs.Prelude.{Option, Some, None, Result, Ok, Err, ℤ, if◌then◌else◌}
use Rattle.std.proofs.lemmas.Bool.{false≢true}
use Rattle.std.proofs.lemmas.Bool.Decides.{nat_tests}
use Rattle.std.proofs.lemmas.List.{length-map}
use Rattle.readings.specs.declared.reading.Reading.{Reading}
use Rattle.readings.specs.declared.reading.Reading.TheVariants as reading
use Rattle.readings.specs.Rows.{row_of}
use Rattle.pgn_profile.specs.declared.kinds.Kind.{Kind}
use Rattle.pgn_profile.specs.declared.kinds.Kind.TheVariants.{Outside}
use Rattle.pgn_profile.specs.Profiled.{kind_of, payload_of, pgn_of}
use Rattle.pgn_profile.proofs.Law.{fits, payload_fits}
use Rattle.fast_packet.proofs.Counts.{need_is}
use Rattle.fast_packet.specs.FastRuns.{later_frame, frames_to, frames_of}
use Rattle.sentence_text.specs.declared.fault.SentenceFault.{SentenceFault}
use Rattle.sentence_text.specs.Sentence.{SentenceParts}
use Rattle.sentence_text.specs.Fields.{fields_of}
use Rattle.sentence_text.specs.Reading as sentences
use Rattle.sentence_profile.specs.declared.fault.FieldFault.{FieldFault}
use Rattle.sentence_profile.specs.declared.fault.FieldFault.TheVariants.{Outside}
use Rattle.sentence_profile.specs.declared.formatter.Formatter.{Formatter}
use Rattle.sentence_profile.specs.Columns.{reads}
use Rattle.sentence_profile.specs.Reading.{formatter_of, Found, alone, is_wanted, rudders, listed, minimum, read_as, read_behind}
use Rattle.sentence_profile.specs.Reading as rows
use Rattle.sentence_profile.specs.Writing.{only_if, beside}
use Rattle.history.specs.Settings.{Settings}
use Rattle.history.specs.Emits.{reported}
use Rattle.history.specs.Heard.{Taken}
use Rattle.history.specs.NetReadings.{NetReading, read_parts, read_sentence, sentence_says}
use Rattle.history.specs.NetRules.{reading_breaks}
use Rattle.history.specs.FromNet.{payload_frames, sent_from, reading_gives, said_gives}

-- ---- the frames of a message

length_frames_to : (sequence : ℕ) (p : List ℕ) (j : ℕ) → length (frames_to sequence p j) ≡ j + 1
unfolding frames_to
length_frames_to sequence p zero = refl
length_frames_to sequence p (suc j) =
    length-append (frames_to sequence p j) (later_frame sequence p j ∷ []) ∙ ap (λ n. n + 1) (length_frames_to sequence p j) ∙ omega arith

-- a message of at most 48 bytes has at most 7 frames, and one of at most 13 bytes two
frames_few : (sequence : ℕ) (p : List ℕ) → length p ≤ 48 → length (frames_of sequence p) ≤ 7
frames_few sequence p small = grind (arith, length_frames_to, need_is)

frames_two : (sequence : ℕ) (p : List ℕ) → length p ≤ 13 → length (frames_of sequence p) ≤ 2
frames_two sequence p small = grind (arith, length_frames_to, need_is)

-- no payload is longer
size_fits : (kind : Kind) (size : ℕ) → fits kind size ≡ true → size ≤ 48
size_fits kind size is = grind (arith, nat_tests, false≢true)

payload_length : (r : Reading) → length (payload_of r) ≤ 48
payload_length r = size_fits (kind_of (pgn_of (row_of r))) (length (payload_of r)) (payload_fits r)

-- ---- a reading that is selected

broken_one : (n : NetReading) → length (reported (reading_breaks n)) ≤ 1
broken_one n = grind arith

-- at most as many as the frames of its payload
module _ (c : Settings) (own : Option ℕ) where
  frames_most : (older : List NetReading) (n : NetReading) (most : ℕ) → 1 ≤ most
      → ((sequence : ℕ) → length (frames_of sequence (payload_of n.reading)) ≤ most) → length (payload_frames c own older n) ≤ most
  frames_most older n most one few = grind arith

  sent_most : (from : Option ℕ) (older : List NetReading) (n : NetReading) (most : ℕ) → length (payload_frames c own older n) ≤ most → length (sent_from c own from older n) ≤ most
  sent_most from older n most few = grind (arith, length-map)

  reading_most : (older : List NetReading) (n : NetReading) (most : ℕ) → 1 ≤ most
      → ((sequence : ℕ) → length (frames_of sequence (payload_of n.reading)) ≤ most) → length (reading_gives c own older n) ≤ most
  reading_most older n most one few = grind (arith, sent_most, frames_most, broken_one)

  reading_few : (t : Taken) (older : List NetReading) (r : Reading) → length (reading_gives c own older (record { line = t; reading = r })) ≤ 7
  reading_few t older r = reading_most older (record { line = t; reading = r }) 7 (omega arith) (λ sequence. frames_few sequence (payload_of r) (payload_length r))

  -- in at most two frames, where the payload is short
  in_two : (t : Taken) (older : List NetReading) (r : Reading) → length (payload_of r) ≤ 13
      → length (reading_gives c own older (record { line = t; reading = r })) ≤ 2
  in_two t older r short = reading_most older (record { line = t; reading = r }) 2 (omega arith) (λ sequence. frames_two sequence (payload_of r) short)

  -- ---- the readings of a sentence, or its fault

  alone_few : (t : Taken) (older : List NetReading) (r : Reading) → length (said_gives c own t older (sentence_says t (Ok (r ∷ [])))) ≤ 7
  alone_few t older r =
      let few = reading_few t older r in
      rw (length-append (reading_gives c own older (record { line = t; reading = r })) []) (omega (arith, few))

  both_few : (t : Taken) (older : List NetReading) (r s : Reading) → length (payload_of r) ≤ 13 → length (payload_of s) ≤ 13
      → length (said_gives c own t older (sentence_says t (Ok (r ∷ s ∷ [])))) ≤ 7
  both_few t older r s short also =
      let n : NetReading = record { line = t; reading = r } in
      let m : NetReading = record { line = t; reading = s } in
      let one = in_two t older r short in
      let two = in_two t (n ∷ older) s also in
      rw (length-append (reading_gives c own older n) (reading_gives c own (n ∷ older) m ++ []), length-append (reading_gives c own (n ∷ older) m) [])
      (omega (arith, one, two))

  rudders_few : (t : Taken) (older : List NetReading) (p q : Option ℤ)
      → length (said_gives c own t older (sentence_says t (Ok (reading.RudderFirst p ∷ reading.RudderSecond q ∷ [])))) ≤ 7
  rudders_few t older p q = both_few t older (reading.RudderFirst p) (reading.RudderSecond q) (omega arith) (omega arith)

  fault_few : (t : Taken) (older : List NetReading) (f : FieldFault) → length (said_gives c own t older (sentence_says t (Err f))) ≤ 7
  fault_few t older f = grind arith

  -- whatever line hands it over
  abbrev IsFew : Result Found FieldFault → Type 0
  IsFew found = (t : Taken) (older : List NetReading) → length (said_gives c own t older (sentence_says t (listed found))) ≤ 7

  alone_is : (x : Result Reading FieldFault) → IsFew (alone x)
  alone_is x = grind (arith, alone_few, fault_few)

  reads_is : (faults : List (Option FieldFault)) (found : Found) → IsFew (Ok found) → IsFew (reads faults found)
  reads_is [] found few = few
  reads_is (None ∷ faults) found few = reads_is faults found few
  reads_is (Some f ∷ faults) found few = λ t older. fault_few t older f

  rudders_is : (no_first no_second : Bool) (p q : Option ℤ) → IsFew (Ok (rudders no_first no_second (reading.RudderFirst p) (reading.RudderSecond q)))
  rudders_is no_first no_second p q = grind (arith, alone_few, rudders_few)

  minimum_is : (kept : Bool) (la lo co sp : Option ℤ) → IsFew (Ok (minimum kept la lo co sp))
  minimum_is kept la lo co sp = λ t older.
      both_few t older (reading.Position (only_if kept (beside la lo)) (only_if kept (beside lo la))) (reading.CourseSpeed false (only_if kept co) (only_if kept sp))
      (omega arith) (omega arith)

  rsa_is : (f : List (List ℕ)) → IsFew (rows.rsa f)
  unfolding rows.rsa
  rsa_is f = grind (arith, reads_is, rudders_is)

  rmc_is : (f : List (List ℕ)) → IsFew (rows.rmc f)
  unfolding rows.rmc
  rmc_is f = grind (arith, reads_is, minimum_is)

  read_is : (k : Formatter) (f : List (List ℕ)) → IsFew (read_as k f)
  read_is k f = grind (arith, alone_is, rsa_is, rmc_is)

  wanted_is : (b : Bool) (k : Formatter) (f : List (List ℕ)) → IsFew (if b then read_as k f else Err Outside)
  wanted_is true k f = read_is k f
  wanted_is false k f = λ t older. fault_few t older Outside

  behind_is : (o : Option Formatter) (f : List (List ℕ)) → IsFew (read_behind c.optional_sentences o f)
  behind_is None f = λ t older. fault_few t older Outside
  behind_is (Some k) f = wanted_is (is_wanted c.optional_sentences k) k f

  begun_is : (b : Bool) (o : Option Formatter) (f : List (List ℕ)) → IsFew (if b then read_behind c.optional_sentences o f else Err Outside)
  begun_is b o f = grind (arith, behind_is, fault_few)

  row_is : (parts : SentenceParts) → IsFew (rows.read_sentence c.optional_sentences parts)
  unfolding rows.read_sentence
  row_is parts = begun_is (parts.start == 36) (formatter_of parts.formatter) (fields_of parts.body)

  parts_few : (t : Taken) (older : List NetReading) (read : Result SentenceParts SentenceFault) → length (said_gives c own t older (sentence_says t (read_parts c.optional_sentences read))) ≤ 7
  parts_few t older read = grind (arith, row_is, fault_few)

-- a sentence gives no more than the frames of the longest message
pub sentence_gives_few : (c : Settings) (own : Option ℕ) (t : Taken) (older : List NetReading) (text : List ℕ)
    → length (said_gives c own t older (sentence_says t (read_sentence c.optional_sentences text))) ≤ 7
sentence_gives_few c own t older text = parts_few c own t older (sentences.read text)
