-- When a sentence can be said.
use Rattle.std.specs.Prelude.{ℕ, ◌<◌, List, length, IsTrue}
use Rattle.std.specs.List.{list_all}
use Rattle.sentence_text.specs.Byte.{is_capital}
use Rattle.sentence_fields.specs.declared.lines.SentenceText.{SentenceText}
use Rattle.sentence_fields.specs.Field.{most_sentences}

-- there is room for one more sentence, and the talker is of capitals
pub record IsReady (talker : List ℕ) (lines : List SentenceText) : Type 0 where
  pub room : length lines < most_sentences
  pub capitals : IsTrue (list_all is_capital talker)
