-- What the answers say of the groups before the line.
use Rattle.std.specs.Prelude.{◌≡◌, ℕ, Bool, true, false, List, IsSomeAnd}
use Rattle.std.specs.declared.cmp.Ordering.{Ordering}
use Rattle.slot_views.specs.Slots.{Entry, SlotMap, grown, entry_at, is_held, is_full, is_complete}
use Rattle.slot_views.specs.Answers.{Shows}
use Rattle.tag_block.specs.declared.group_key.GroupKey.{GroupKey}
use Rattle.tag_block.specs.declared.group_part.GroupPart.{GroupPart}
use Rattle.tag_block.specs.declared.group_verdict.GroupVerdict.{GroupVerdict}
use Rattle.tag_block.specs.declared.group_verdict.GroupVerdict.TheVariants.{Opens, Follows, Breaks}
use Rattle.tag_block.specs.declared.group_answers.GroupFed.{GroupFed}
use Rattle.tag_block.specs.declared.group_answers.GroupOutcome.{GroupOutcome}
use Rattle.tag_block.specs.declared.group_answers.GroupOutcome.TheVariants.{Held, Complete, Order, Full}
use Rattle.tag_block.specs.Groups.{verdict, opening}
use Rattle.tag_block.specs.GroupRuns.{group_gap}

-- the group that was taken out
abbrev pub ended_of : GroupKey × Entry → GroupKey
ended_of e = e.0

module _ (cmp : GroupKey → GroupKey → Ordering) (s : SlotMap GroupKey) (k : GroupKey) where
  -- the answer to a first line, with the group that it opens
  abbrev pub OpensGives : Entry → GroupOutcome → Type 0
  OpensGives e Held = (is_full cmp s k ≡ false) × (is_complete e ≡ false)
  OpensGives e (Complete view) = (is_full cmp s k ≡ false) × (is_complete e ≡ true) × Shows view e
  OpensGives e Order = ⊥
  OpensGives e Full = is_full cmp s k ≡ true

  -- the answer to the next line, with what the group is with it
  abbrev pub FollowsGives : (Entry → Entry) → GroupOutcome → Type 0
  FollowsGives more Held = IsSomeAnd (entry_at cmp s k) (λ e. is_complete (more e) ≡ false)
  FollowsGives more (Complete view) = IsSomeAnd (entry_at cmp s k) (λ e. (is_complete (more e) ≡ true) × Shows view (more e))
  FollowsGives more Order = ⊥
  FollowsGives more Full = ⊥

  -- a first line gives up the group that is open
  abbrev pub restarted_by : GroupVerdict → Bool
  restarted_by Opens = is_held cmp s k
  restarted_by Follows = false
  restarted_by Breaks = false

  module _ (part : GroupPart) (sentence : List ℕ) (moment : ℕ) where
    -- the answer to a line, by what it is
    abbrev pub OutcomeBy : GroupVerdict → GroupOutcome → Type 0
    OutcomeBy Opens outcome = OpensGives (opening part sentence moment) outcome
    OutcomeBy Follows outcome = FollowsGives (λ e. grown e sentence moment group_gap) outcome
    OutcomeBy Breaks outcome = outcome ≡ Order

    abbrev pub FeedGivesBy : GroupVerdict → GroupFed → Type 0
    FeedGivesBy v fed = (fed.restarted ≡ restarted_by v) × OutcomeBy v fed.outcome

    abbrev pub FeedGives : GroupFed → Type 0
    FeedGives fed = FeedGivesBy (verdict (entry_at cmp s k) part) fed
