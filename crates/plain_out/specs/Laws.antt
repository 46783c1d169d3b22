-- The sentences of a datagram are those that its lines were written of.
use Rattle.std.specs.Prelude.{◌≡◌, ℕ, ◌≤◌, List, [], ◌∷◌, ◌++◌, length, Ok}
use Rattle.sentence_text.specs.Sentence.{SentenceParts}
use Rattle.tag_block.specs.Tag.{Said}
use Rattle.datagram450.specs.Datagram.{Item, LineOf, all_of, bad, header, line, longest_datagram, most_lines, read}
use Rattle.plain_out.specs.Plain.{sentences_in}

-- each line is TAG blocks, and then its sentence
abbrev pub AreLinesOf : List (List ℕ) → List (List ℕ) → Type 0
AreLinesOf [] [] = Unit {0}
AreLinesOf (l ∷ ls) (t ∷ ts) = ((said : Said) × (parts : SentenceParts) × LineOf said t parts l) × AreLinesOf ls ts
AreLinesOf [] (t ∷ ts) = ⊥
AreLinesOf (l ∷ ls) [] = ⊥

-- ---- what is read of a datagram

-- every item is a line, and these are the sentences of the lines, in order
abbrev pub AreSaid : List Item → List (List ℕ) → Type 0
AreSaid [] [] = Unit {0}
AreSaid (line at said text parts ∷ items) (t ∷ ts) = (text ≡ t) × AreSaid items ts
AreSaid (line at said text parts ∷ items) [] = ⊥
AreSaid (bad rule at ∷ items) ts = ⊥
AreSaid [] (t ∷ ts) = ⊥

-- bytes are read as a datagram of these sentences, in order, and of nothing else
pub record Says (bytes : List ℕ) (sentences : List (List ℕ)) : Type 0 where
  pub items : List Item
  pub is_read : read bytes ≡ Ok items
  pub are_said : AreSaid items sentences

-- the header and lines of TAG blocks and a sentence each are read so
abbrev pub LinesAreRead : Type 0
LinesAreRead =
    (lines sentences : List (List ℕ)) → AreLinesOf lines sentences → length lines ≤ most_lines → length (header ++ all_of lines) ≤ longest_datagram
    → Says (header ++ all_of lines) sentences

-- and of what is read so, the sentences stay
abbrev pub WhatIsReadStays : Type 0
WhatIsReadStays = (bytes : List ℕ) (sentences : List (List ℕ)) → Says bytes sentences → sentences_in bytes ≡ all_of sentences

abbrev pub SentencesStay : Type 0
SentencesStay =
    (lines sentences : List (List ℕ)) → AreLinesOf lines sentences → length lines ≤ most_lines → length (header ++ all_of lines) ≤ longest_datagram
    → sentences_in (header ++ all_of lines) ≡ all_of sentences
