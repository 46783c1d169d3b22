-- What is promised of a sentence of fields: it is read as its parts and its fields.
use Rattle.std.specs.Prelude.{◌≡◌, ℕ, List, map, Ok}
use Rattle.sentence_text.specs.Fields.{fields_of}
use Rattle.sentence_text.specs.Reading.{read}
use Rattle.sentence_text.specs.Sentence.{SentenceParts}
use Rattle.sentence_fields.specs.declared.field.Field.{Field}
use Rattle.sentence_fields.specs.Field.{body_text, text_of, sentence_by}

-- the parts of a sentence of fields
abbrev pub parts_by : List ℕ → List ℕ → List Field → SentenceParts
parts_by talker formatter fields = record { start = 36; talker = talker; formatter = formatter; body = body_text fields }

-- a sentence of fields is read as its parts, and its body as the texts of the fields
pub record IsReadBack (talker formatter : List ℕ) (fields : List Field) : Type 0 where
  pub is_sentence : read (sentence_by talker formatter fields) ≡ Ok (parts_by talker formatter fields)
  pub has_fields : fields_of (body_text fields) ≡ map text_of fields
