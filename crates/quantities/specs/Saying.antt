-- What is said of a value.
use Rattle.std.specs.Prelude.{◌≡◌, ℕ, ◌≤◌, ℤ, Bool, List, length, map, take, Ok, Option, is_some}
use Rattle.std.specs.List.{list_any}
use Rattle.sentence_text.specs.Reading.{read}
use Rattle.sentence_text.specs.Sentence.{SentenceParts, body_of, longest_written, sentence}
use Rattle.quantities.specs.declared.value.Value.{Value}
use Rattle.quantities.specs.Layout.{Layout, layout_of, telling_of, text_in}

-- one of the values that tell is there
abbrev pub is_usable : Value → Bool
is_usable v = list_any is_some (take (telling_of v.quantity) v.values)

-- the parts of the sentence in which values are said
abbrev pub parts_in : Layout → List ℕ → List (Option ℤ) → SentenceParts
parts_in layout talker values = record { start = 36; talker = talker; formatter = layout.formatter; body = body_of (map (text_in values) layout.columns) }

-- the sentence in which the talker says the value, on a boat with two engines or not
abbrev pub sentence_of : Bool → List ℕ → Value → List ℕ
sentence_of twin talker v = sentence (parts_in (layout_of twin v.quantity) talker v.values)

-- values are said in a sentence of IEC 61162-1, which has at most 82 bytes and is read as its parts
pub record AreSaid (layout : Layout) (talker : List ℕ) (values : List (Option ℤ)) : Type 0 where
  pub short : length (sentence (parts_in layout talker values)) ≤ longest_written
  pub is_sentence : read (sentence (parts_in layout talker values)) ≡ Ok (parts_in layout talker values)
