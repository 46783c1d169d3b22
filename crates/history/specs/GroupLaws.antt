-- What one more taken line does to what is open of its group.
use Rattle.std.specs.Prelude.{◌≡◌, ℕ, ◌≤◌, false, List, [], ◌∷◌, Some, None}
use Rattle.slot_views.specs.Runs.{kept_at}
use Rattle.slot_views.specs.RunLaws.{fed, finished}
use Rattle.tag_block.specs.declared.group_part.GroupPart.{GroupPart}
use Rattle.tag_block.specs.declared.group_key.GroupKey.{GroupKey}
use Rattle.tag_block.specs.GroupRuns.{group_rules}
use Rattle.history.specs.Heard.{Taken, same_group, several, group_line, group_open, sentences_in, handed_over}

module _ (t : Taken) (older : List Taken) where
  abbrev pub group_key : GroupPart → GroupKey
  group_key part = record { sfi = t.source; code = part.code }

  pub record StepsGroup (part : GroupPart) : Type 0 where
    -- of its group the line leaves what the rules of groups say of the lines that were open, and it hands over the sentences of the
    -- group that it ends by them
    pub left : (n : ℕ) → group_open (t ∷ older) (group_key part) n
        ≡ kept_at group_rules (fed group_rules (group_open older (group_key part) t.moment) (group_line t part)) n
    pub handed : handed_over t older ≡ sentences_in (finished group_rules (group_open older (group_key part) t.moment) (group_line t part))
    -- what is open of other groups stays open
    pub others : (key : GroupKey) (n : ℕ) → same_group key (group_key part) ≡ false → group_open (t ∷ older) key n ≡ group_open older key n

  -- a line that is in no group of two lines or more hands over its own sentence, and all groups stay open
  pub record StandsAlone : Type 0 where
    pub handed : handed_over t older ≡ t.sentence ∷ []
    pub others : (key : GroupKey) (n : ℕ) → group_open (t ∷ older) key n ≡ group_open older key n

abbrev pub LinesStepGroup : Type 0
LinesStepGroup = (t : Taken) (older : List Taken) (part : GroupPart) → several t.group ≡ Some part → StepsGroup t older part

abbrev pub LinesStandAlone : Type 0
LinesStandAlone = (t : Taken) (older : List Taken) → several t.group ≡ None → StandsAlone t older

-- what is open at a moment is what was open at an earlier one, but for what is overdue
abbrev pub TimeEndsGroup : Type 0
TimeEndsGroup = (taken : List Taken) (key : GroupKey) (m n : ℕ) → m ≤ n → group_open taken key n ≡ kept_at group_rules (group_open taken key m) n
