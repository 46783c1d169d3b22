-- When what is noted of a table of subjects stands for the history.
use Rattle.std.specs.Prelude.{◌≡◌, ℕ, ◌<◌, List, length, Option}
use Rattle.source_choice.specs.declared.told.Told.{Told}
use Rattle.source_choice.specs.SubjectRules.{SubjectRule}
use Rattle.source_choice.specs.Choices.{Choices, subject_at}
use Rattle.claim_table.specs.Claims.{places}
use Rattle.claim_table.specs.declared.answer.Holder.{Holder}
use Rattle.history.specs.Entries.{History}
use Rattle.history.specs.Settings.{Receiver}
use Rattle.history.specs.Known.{known}
use Rattle.history.specs.Messages.{Message, messages_of}
use Rattle.history.specs.ChoiceLaws.{HoldsNotes}

-- a table of so many subjects: what each message tells of them, and from whom each is taken
module _ (tells : Message → Option Told) (rules : ℕ → SubjectRule) (count : ℕ) where
  -- the notes of each subject are of the messages that were complete, by who holds each address now
  pub record StandsChoices (holders : List (Option Holder)) (older : List Message) (k : Choices) : Type 0 where
    pub sources : k.sources ≡ places
    pub subjects : length k.subjects ≡ count
    pub each_subject : (n : ℕ) → n < count → (subject_at k n).sources ≡ places
    pub notes : (n : ℕ) → n < count → HoldsNotes tells (rules n) holders n older (subject_at k n)

  -- they stand for a history of a receiver
  abbrev pub ChoicesStandFor : Receiver → ℕ → History → Choices → Type 0
  ChoicesStandFor r s h k = StandsChoices (known r s h).claims.holders (messages_of r s h) k
