-- ALR, the state of an alarm (IEC 61162-1): `$IIALR,,101,A,V,heading_true*75`. The time of the change is empty; the number of the alarm counts
-- the rows from 101 on; its condition is A while the row isn't said, and V once it is said again; it isn't acknowledged; and its text is the
-- row's name.
use Rattle.std.specs.Prelude.{ℕ, ◌+◌, Bool, true, false, List, ◌∷◌, ◌++◌, codes}
use Rattle.unit_fraction.specs.Text.{decimals}
use Rattle.readings.specs.declared.rows.Row.{Row}
use Rattle.readings.specs.Rows.{about_of, row_number}
use Rattle.sentence_fields.specs.Field.{letter_where}
use Rattle.sentence_text.specs.Sentence.{SentenceParts, sentence}

abbrev pub condition : Bool → ℕ
condition said = letter_where said 86 65

-- the fields, each behind its comma
abbrev pub alert_body : Row → Bool → List ℕ
alert_body row said = 44 ∷ 44 ∷ (decimals 3 (101 + row_number row) ++ 44 ∷ condition said ∷ 44 ∷ 86 ∷ 44 ∷ (about_of row).name)

abbrev pub alert_parts : List ℕ → Row → Bool → SentenceParts
alert_parts talker row said = record { start = 36; talker = talker; formatter = codes "ALR"; body = alert_body row said }

abbrev pub alert_text : List ℕ → Row → Bool → List ℕ
alert_text talker row said = sentence (alert_parts talker row said)
