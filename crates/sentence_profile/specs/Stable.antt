-- What is promised of the sentences that are written: read again, each says the same.
use Rattle.std.specs.Prelude.{◌≡◌, ℕ, Bool, List, [], ◌∷◌, map, Contains, Ok}
use Rattle.std.specs.List.{AllByRecursion}
use Rattle.readings.specs.declared.reading.Reading.{Reading}
use Rattle.sentence_text.specs.Reading.{read}
use Rattle.sentence_text.specs.Sentence.{SentenceParts}
use Rattle.sentence_fields.specs.Field.{sentence_by}
use Rattle.sentence_fields.specs.ReadBack.{IsReadBack}
use Rattle.sentence_profile.specs.Reading.{read_row, usual}
use Rattle.sentence_profile.specs.Writing.{Dated, IsText, day_said, said}

-- the line is read as a sentence with one reading, and it is among the sentences in which the talker says that reading
pub record IsStable (talker : List ℕ) (with_ths : Bool) (line : List ℕ) : Type 0 where
  pub parts : SentenceParts
  pub is_sentence : read line ≡ Ok parts
  pub reading : Reading
  pub is_read : read_row usual parts ≡ Ok (reading ∷ [])
  pub lines : List (List ℕ)
  pub are_said : IsText reading talker with_ths lines
  pub among : Contains lines line

-- the lines are the sentences in which the talker says the reading, and each of them is read back
abbrev pub IsSaid : Reading → List ℕ → Bool → List (List ℕ) → Type 0
IsSaid r talker with_ths lines =
    Dated (day_said r) (λ d. (lines ≡ map (λ s. sentence_by talker s.0 s.1) (said with_ths d r)) × AllByRecursion (λ s. IsReadBack talker s.0 s.1) (said with_ths d r))
