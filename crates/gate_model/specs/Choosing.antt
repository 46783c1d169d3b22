-- What a complete message makes of the notes of a table of subjects, and what addresses that change hands make of them, as plain values.
-- Nothing here speaks of what came before.
use Rattle.std.specs.Prelude.{ℕ, Bool, false, Option, Some, None}
use Rattle.source_choice.specs.declared.rank.Rank.{Rank}
use Rattle.source_choice.specs.declared.told.Told.{Told}
use Rattle.source_choice.specs.SubjectRules.{SubjectRule, rank_of}
use Rattle.source_choice.specs.Choices.{Choices, forgotten, is_chosen, with_told}
use Rattle.claim_table.specs.declared.answer.ClaimStep.{ClaimStep}
use Rattle.history.specs.Known.{address_left, address_won}
use Rattle.history.specs.Messages.{Message}

-- ---- what is told from an address at a moment: where its NAME has a rank it is noted, and may be selected

module _ (k : Choices) (source moment : ℕ) where
  abbrev pub ranked_after : Option Rank → Told → Choices
  ranked_after None t = k
  ranked_after (Some rank) t = with_told k source rank moment t

  abbrev pub is_ranked_chosen : Option Rank → Told → Bool
  is_ranked_chosen None t = false
  is_ranked_chosen (Some rank) t = is_chosen k source rank moment t

module _ (rules : ℕ → SubjectRule) (k : Choices) (source moment name : ℕ) where
  abbrev pub told_after : Option Told → Choices
  told_after None = k
  told_after (Some t) = ranked_after k source moment (rank_of (rules t.subject) name) t

  abbrev pub is_told_chosen : Option Told → Bool
  is_told_chosen None = false
  is_told_chosen (Some t) = is_ranked_chosen k source moment (rank_of (rules t.subject) name) t

-- ---- a message, or none

module _ (tells : Message → Option Told) (rules : ℕ → SubjectRule) (k : Choices) where
  abbrev pub message_noted : Option Message → Choices
  message_noted None = k
  message_noted (Some d) = told_after rules k d.source d.moment d.name (tells d)

  abbrev pub is_message_chosen : Option Message → Bool
  is_message_chosen None = false
  is_message_chosen (Some d) = is_told_chosen rules k d.source d.moment d.name (tells d)

-- ---- addresses that change hands: nothing is noted any more of the one that was left and the one that was won

abbrev pub without_address : Option ℕ → Choices → Choices
without_address None k = k
without_address (Some a) k = forgotten k a

abbrev pub claimed : ClaimStep → Choices → Choices
claimed step k = without_address (address_won step) (without_address (address_left step) k)
