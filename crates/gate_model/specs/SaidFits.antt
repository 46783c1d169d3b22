-- What the calls need that are made of what is kept of what was said (IEC 61162-450): the numbers of a TAG block are ones that can be written,
-- and a datagram finds room where it is sent from.
use Rattle.std.specs.Prelude.{◌≡◌, ℕ, ◌+◌, ◌%◌, ◌<◌, ◌≤◌, List, length, Option}
use Rattle.std.specs.List.{AllByRecursion}
use Rattle.readings.specs.declared.reading.Reading.{Reading}
use Rattle.readings.specs.Rows.{IsValid, row_of}
use Rattle.claim_table.specs.declared.answer.ClaimStep.{ClaimStep}
use Rattle.sentence_text.specs.Names.{IsSfi}
use Rattle.sentence_text.specs.Sentence.{longest_written}
use Rattle.sentence_fields.specs.Field.{most_sentences}
use Rattle.tag_block.specs.declared.writing.TagParts.{TagParts}
use Rattle.tag_block.specs.Tag.{most_count}
use Rattle.tag_block.specs.Writing.{IsWritable, most_written_code, longest_block, longest_packet}
use Rattle.datagram450.specs.Datagram.{line_text}
use Rattle.history.specs.Settings.{Settings, rule_of}
use Rattle.history.specs.Emits.{part_of}
use Rattle.gate_model.specs.Said.{SaidKept, Complete, nothing_said, sentences_by, datagram_by, message_after, claimed_after}

-- ---- the counts are below the greatest count of a line, and below the greatest code of a group

pub record AreCounts (k : SaidKept) : Type 0 where
  pub lines : AllByRecursion (λ n. n < most_count) k.lines
  pub groups : k.groups < most_written_code

pub record CountsFit : Type 0 where
  pub opening : (c : Settings) → AreCounts (nothing_said c)
  pub message : (c : Settings) (k : SaidKept) (d : Option Complete) → AreCounts k → AreCounts (message_after c k d)
  pub claim : (step : ClaimStep) (k : SaidKept) → AreCounts k → AreCounts (claimed_after step k)

-- ---- a line has no more bytes than a TAG block and a sentence have at most

abbrev pub LinesFit : Type 0
LinesFit =
    (tag : TagParts) (sentence : List ℕ) → IsWritable tag → IsSfi tag.source → length sentence ≤ longest_written
    → length (line_text tag sentence) ≤ longest_block + longest_written

-- ---- a reading that is said

-- the TAG block of a line, by its number and by how many lines were said before on its transmission group
abbrev pub tag_of : Settings → SaidKept → Reading → ℕ → ℕ → TagParts
tag_of c k r number before = record { group = part_of (length (sentences_by c r)) (k.groups + 1) number; source = c.sfi; count = before % most_count + 1 }

pub record ReadingFits (c : Settings) (k : SaidKept) (r : Reading) : Type 0 where
  -- one sentence or two
  pub some : 1 ≤ length (sentences_by c r)
  pub few : length (sentences_by c r) ≤ most_sentences
  pub short : AllByRecursion (λ x. length x ≤ longest_written) (sentences_by c r)
  pub tags : (number before : ℕ) → 1 ≤ number → number ≤ length (sentences_by c r) → IsWritable (tag_of c k r number before)
  pub room : length (datagram_by c k r) ≤ longest_packet

abbrev pub ReadingsFit : Type 0
ReadingsFit =
    (c : Settings) (k : SaidKept) (r : Reading) → IsSfi c.sfi → length (rule_of c (row_of r)).talker ≡ 2 → IsValid r → AreCounts k
    → ReadingFits c k r
