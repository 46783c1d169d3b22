-- What each call does to the groups of single keys.
use Rattle.std.specs.Prelude.{◌≡◌, not, List, ◌∷◌}
use Rattle.std.specs.List.{AllByRecursion}
use Rattle.std.specs.declared.cmp.Ordering.{Ordering}
use Rattle.slot_views.specs.Runs.{open_at}
use Rattle.slot_views.specs.RunLaws.{fed, finished}
use Rattle.slot_views.specs.Slots.{SlotMap, IsMap, Changes, entry_at, is_full}
use Rattle.tag_block.specs.declared.group_key.GroupKey.{GroupKey}
use Rattle.tag_block.specs.declared.group_answers.GroupFed.{GroupFed}
use Rattle.tag_block.specs.Groups.{IsGroupPart, verdict, fed_after}
use Rattle.tag_block.specs.GroupAnswers.{FeedGives}
use Rattle.tag_block.specs.GroupRuns.{GroupLine, group_rules}
use Rattle.tag_block.specs.GroupLaws.{group_at, left_by, AnswerIs}

module _ (cmp : GroupKey → GroupKey → Ordering) where
  -- a first line is noted as admitted where there is room for its group
  abbrev pub IsNotedBy : SlotMap GroupKey → GroupKey → GroupLine → Type 0
  IsNotedBy s k x = x.admitted ≡ not (is_full cmp s k)

  -- a line changes the group of its key alone, by what it is to it
  pub record FeedsItsKey : Type 0 where
    pub changes : (s : SlotMap GroupKey) (k : GroupKey) (x : GroupLine) → IsMap cmp s → IsNotedBy s k x
        → let o = entry_at cmp s k in Changes cmp s (fed_after cmp s k x.part x.sentence x.moment) k (left_by (verdict o x.part) x o)

  -- where the key's group is that of the lines h of the key that are open just before one more line, the answer to that is what
  -- they say, it leaves what they leave, and all else stays
  pub record StepsWithRuns : Type 0 where
    pub answer : (s : SlotMap GroupKey) (k : GroupKey) (h : List GroupLine) (x : GroupLine) (result : GroupFed) → AllByRecursion (λ x. IsGroupPart x.part) (x ∷ h)
        → let q = open_at group_rules h x.moment in entry_at cmp s k ≡ group_at q → IsNotedBy s k x
        → FeedGives cmp s k x.part x.sentence x.moment result → AnswerIs q x (finished group_rules q x) result
    pub changes : (s : SlotMap GroupKey) (k : GroupKey) (h : List GroupLine) (x : GroupLine) → AllByRecursion (λ x. IsGroupPart x.part) (x ∷ h)
        → let q = open_at group_rules h x.moment in entry_at cmp s k ≡ group_at q → IsNotedBy s k x
        → IsMap cmp s → Changes cmp s (fed_after cmp s k x.part x.sentence x.moment) k (group_at (fed group_rules q x))
