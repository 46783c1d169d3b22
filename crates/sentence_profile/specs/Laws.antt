-- What is promised of dates and of the sentences that are written.
use Rattle.std.specs.Prelude.{◌≡◌, ◌↔◌, ℕ, ◌≤◌, ℤ, Bool, true, false, not, ◌&&◌, List, [], ◌∷◌, codes, length, IsTrue, None, Result, Ok, Err}
use Rattle.std.specs.List.{AllByRecursion, list_all}
use Rattle.readings.specs.declared.reading.Reading.{Reading}
use Rattle.readings.specs.Ranges.{Holds, date as date_range}
use Rattle.readings.specs.Rows.{IsValid}
use Rattle.sentence_text.specs.Sentence.{SentenceParts, longest_written}
use Rattle.sentence_text.specs.Fields.{fields_of}
use Rattle.sentence_fields.specs.Field.{letter_where, most_sentences}
use Rattle.sentence_text.specs.Byte.{is_capital}
use Rattle.sentence_text.specs.Reading.{read}
use Rattle.sentence_profile.specs.declared.minimum.Minimum.{Minimum}
use Rattle.sentence_profile.specs.declared.fault.FieldFault.{FieldFault}
use Rattle.sentence_profile.specs.declared.formatter.Formatter.TheVariants as formatter
use Rattle.sentence_profile.specs.declared.optional.OptionalSentences.{OptionalSentences}
use Rattle.sentence_profile.specs.Calendar.{IsDateOf, civil_date}
use Rattle.sentence_profile.specs.Columns.{is_letter, text}
use Rattle.sentence_profile.specs.Reading.{is_invalid_mode, read_as, read_row}
use Rattle.sentence_profile.specs.Rmc.{IsMinimum, rmc_text}
use Rattle.sentence_profile.specs.Writing.{IsText, sentences_of}

-- the date that is computed for a day is the calendar's
abbrev pub DatesAreTheCalendars : Type 0
DatesAreTheCalendars = (day : ℤ) → Holds date_range day → IsDateOf day (civil_date day)

-- a valid reading can be said in these sentences and in no others
abbrev pub SaidInOneWay : Type 0
SaidInOneWay =
    (r : Reading) (talker : List ℕ) (with_ths : Bool) (lines : List (List ℕ)) → IsValid r → IsText r talker with_ths lines ↔ (lines ≡ sentences_of talker with_ths r)

-- a reading is said in one sentence or two; a talker of two letters says a valid one in sentences of at most 82 bytes each
pub record SaidBriefly (talker : List ℕ) (with_ths : Bool) (r : Reading) : Type 0 where
  pub some : 1 ≤ length (sentences_of talker with_ths r)
  pub few : length (sentences_of talker with_ths r) ≤ most_sentences
  pub short : length talker ≡ 2 → IsValid r → AllByRecursion (λ x. length x ≤ longest_written) (sentences_of talker with_ths r)

abbrev pub EachSaidBriefly : Type 0
EachSaidBriefly = (talker : List ℕ) (with_ths : Bool) (r : Reading) → SaidBriefly talker with_ths r

-- ---- what is said is a sentence

-- the line is read as a sentence of IEC 61162-1, and is no longer than one that is written may be
pub record IsOneSentence (line : List ℕ) : Type 0 where
  pub parts : SentenceParts
  pub is_read : read line ≡ Ok parts
  pub short : length line ≤ longest_written

-- a talker of two capital letters says a valid reading in sentences
abbrev pub EachIsASentence : Type 0
EachIsASentence =
    (talker : List ℕ) (with_ths : Bool) (r : Reading) → length talker ≡ 2 → IsTrue (list_all is_capital talker) → IsValid r
    → AllByRecursion IsOneSentence (sentences_of talker with_ths r)

-- and values in their ranges in one RMC
abbrev pub RmcIsASentence : Type 0
RmcIsASentence =
    (talker : List ℕ) (x : Minimum) → length talker ≡ 2 → IsTrue (list_all is_capital talker) → IsMinimum x → IsOneSentence (rmc_text talker x)

-- ---- RMC says what GLL and VTG say

-- the status of an RMC is A, and its mode isn't N
abbrev pub is_minimum_valid : List (List ℕ) → Bool
is_minimum_valid f = is_letter 65 false (text f 2) && not (is_invalid_mode f 12)

-- the fields of a GLL with the position of an RMC, whose status V or mode N is its status V
abbrev pub gll_of : List (List ℕ) → List (List ℕ)
gll_of f = text f 3 ∷ text f 4 ∷ text f 5 ∷ text f 6 ∷ [] ∷ (letter_where (is_minimum_valid f) 65 86 ∷ []) ∷ []

-- the fields of a VTG with the course and speed of an RMC, whose status V or mode N is its mode N
abbrev pub vtg_of : List (List ℕ) → List (List ℕ)
vtg_of f =
    text f 8 ∷ codes "T" ∷ [] ∷ codes "M" ∷ text f 7 ∷ codes "N" ∷ [] ∷ codes "K" ∷ (letter_where (is_minimum_valid f) 65 78 ∷ []) ∷ []

-- what an RMC of these fields gives: the reading of that GLL and then the reading of that VTG; where it has a fault, no reading
abbrev pub IsGllAndVtg : List (List ℕ) → Result (List Reading) FieldFault → Type 0
IsGllAndVtg f (Ok readings) =
    (position : Reading) × (course : Reading) × (read_as formatter.Gll (gll_of f) ≡ Ok (position, None)) × (read_as formatter.Vtg (vtg_of f) ≡ Ok (course, None))
    × (readings ≡ position ∷ course ∷ [])
IsGllAndVtg f (Err fault) = Unit {0}

abbrev pub RmcIsGllAndVtg : Type 0
RmcIsGllAndVtg =
    (optional : OptionalSentences) (parts : SentenceParts) → optional.rmc ≡ true → parts.start ≡ 36 → parts.formatter ≡ codes "RMC"
    → IsGllAndVtg (fields_of parts.body) (read_row optional parts)
