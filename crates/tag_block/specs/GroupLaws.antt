-- What is promised of groups of lines. A list of lines has the newest first.
use Rattle.std.specs.Prelude.{◌≡◌, ℕ, ◌≤◌, Bool, true, false, ◌&&◌, ◌==◌, if◌then◌else◌, is_some, IsSomeAnd, List, [], ◌∷◌, length, Option, Some, None}
use Rattle.std.specs.List.{AllByRecursion}
use Rattle.std.specs.declared.cmp.Ordering.{Ordering}
use Rattle.slot_views.specs.Runs.{opener_of, open_at, run_of}
use Rattle.slot_views.specs.Slots.{Entry, SlotMap, grown, entry_at}
use Rattle.slot_views.specs.Traces.{Filling, if_incomplete, entry_after, unexpired, now_of, pieces_at, open_keys, IsNoted, map_after}
use Rattle.tag_block.specs.declared.group_key.GroupKey.{GroupKey}
use Rattle.tag_block.specs.declared.group_verdict.GroupVerdict.{GroupVerdict}
use Rattle.tag_block.specs.declared.group_verdict.GroupVerdict.TheVariants.{Opens, Follows, Breaks}
use Rattle.tag_block.specs.declared.group_answers.GroupFed.{GroupFed}
use Rattle.tag_block.specs.declared.group_answers.GroupOutcome.{GroupOutcome}
use Rattle.tag_block.specs.declared.group_answers.GroupOutcome.TheVariants.{Held, Complete, Order, Full}
use Rattle.tag_block.specs.Groups.{IsGroupPart, verdict, opening, fed_after}
use Rattle.tag_block.specs.GroupAnswers.{FeedGives}
use Rattle.tag_block.specs.GroupRuns.{GroupLine, is_next, group_rules, sentences_of, group_gap}

-- the group that the lines accepted so far make
abbrev pub group_of : List GroupLine → Option Entry
group_of [] = None
group_of (x ∷ xs) = Some (record { bytes = sentences_of (x ∷ xs); next = length (x ∷ xs); need = (opener_of x xs).part.total; last = x.moment; gap = group_gap; mark = 0 })

abbrev pub group_at : Option (List GroupLine) → Option Entry
group_at None = None
group_at (Some acc) = group_of acc

-- what a line leaves of the group of its key
abbrev pub grown_by : GroupLine → Option Entry → Option Entry
grown_by x None = None
grown_by x (Some e) = if_incomplete (grown e x.sentence x.moment group_gap)

abbrev pub left_by : GroupVerdict → GroupLine → Option Entry → Option Entry
left_by Opens x o = if x.admitted then if_incomplete (opening x.part x.sentence x.moment) else None
left_by Follows x o = grown_by x o
left_by Breaks x o = None

-- lines fill groups
abbrev pub filling : Filling GroupLine
filling = record { moment = λ x. x.moment; admitted = λ x. x.admitted; step = λ o x. left_by (verdict o x.part) x o }

-- the group of one key after its lines
abbrev pub group_after : List GroupLine → Option Entry
group_after h = entry_after filling h

-- the line extends the lines that are open
abbrev pub extends : Option (List GroupLine) → GroupLine → Bool
extends None x = false
extends (Some acc) x = is_next acc x

-- it is a first line for which there is room, or extends them
abbrev pub is_taken : Option (List GroupLine) → GroupLine → Bool
is_taken o x = if x.part.number == 1 then x.admitted else extends o x

-- the answer to a line, by the lines of its key that are open just before it, and the group that it completes
module _ (o : Option (List GroupLine)) (x : GroupLine) (done : Option (List GroupLine)) where
  abbrev pub OutcomeIs : GroupOutcome → Type 0
  OutcomeIs Held = (is_taken o x ≡ true) × (done ≡ None)
  OutcomeIs (Complete view) = (is_taken o x ≡ true) × IsSomeAnd done (λ acc. view.bytes.now ≡ sentences_of acc)
  OutcomeIs Order = ((x.part.number == 1) ≡ false) × (extends o x ≡ false) × (done ≡ None)
  OutcomeIs Full = ((x.part.number == 1) ≡ true) × (x.admitted ≡ false) × (done ≡ None)

  abbrev pub AnswerIs : GroupFed → Type 0
  AnswerIs fed = (fed.restarted ≡ ((x.part.number == 1) && is_some o)) × OutcomeIs fed.outcome

-- the lines of a key are open at the moment
abbrev pub is_open_at : List GroupLine → ℕ → Bool
is_open_at p m = is_some (open_at group_rules p m)

module _ (cmp : GroupKey → GroupKey → Ordering) (limit : ℕ) where
  -- lines that may come to an assembler with this limit: of groups of 2 to 9 lines, none earlier than those before it, each noted
  -- as admitted exactly where fewer of the other keys than the limit are open at its moment
  pub record AreFed (h : List (GroupKey × GroupLine)) : Type 0 where
    pub some : 1 ≤ limit
    pub valid : AllByRecursion (λ n. IsGroupPart n.1.part) h
    pub noted : IsNoted cmp (λ x. x.moment) (λ x. x.admitted) is_open_at limit h

  -- the groups after the lines, where all that is overdue ends before each; and what is left of them at a later moment
  abbrev pub fed_one : SlotMap GroupKey → GroupKey → GroupLine → SlotMap GroupKey
  fed_one s k x = fed_after cmp s k x.part x.sentence x.moment

  abbrev pub groups : List (GroupKey × GroupLine) → ℕ → SlotMap GroupKey
  groups h m = unexpired m (map_after cmp filling fed_one limit h)

  pub record FollowsRuns (h : List (GroupKey × GroupLine)) : Type 0 where
    -- the group of each key is that of the lines that are open among its own, and there are as many as keys that are open
    pub entries : (k : GroupKey) (m : ℕ) → now_of (λ x. x.moment) h ≤ m → entry_at cmp (groups h m) k ≡ group_at (open_at group_rules (pieces_at cmp k h) m)
    pub count : (m : ℕ) → now_of (λ x. x.moment) h ≤ m → length (groups h m).entries ≡ length (open_keys cmp (λ p. is_open_at p m) h)

  -- the answer to one more line is what the lines of its key say
  abbrev pub AnswersRuns : GroupKey → GroupLine → List (GroupKey × GroupLine) → GroupFed → Type 0
  AnswersRuns k x h fed =
      FeedGives cmp (groups h x.moment) k x.part x.sentence x.moment fed
      → AnswerIs (open_at group_rules (pieces_at cmp k h) x.moment) x (run_of group_rules (x ∷ pieces_at cmp k h)) fed
