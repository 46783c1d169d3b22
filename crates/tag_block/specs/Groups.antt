-- What a line of a group does to the open groups: a limit, and the groups by key. Of an open group there are the sentences so far,
-- how many they are, and its total.
use Rattle.std.specs.Prelude.{◌≡◌, ℕ, ◌+◌, ◌-◌, ◌≤◌, Bool, ◌&&◌, ◌==◌, if◌then◌else◌, List, Option, Some, None}
use Rattle.std.specs.declared.cmp.Ordering.{Ordering}
use Rattle.slot_views.specs.Slots.{Entry, SlotMap, opened, entry_at, released, begun_after, grown_after}
use Rattle.tag_block.specs.declared.group_key.GroupKey.{GroupKey}
use Rattle.tag_block.specs.declared.group_part.GroupPart.{GroupPart}
use Rattle.tag_block.specs.Tag.{most_lines}
use Rattle.tag_block.specs.GroupRuns.{group_gap}
use Rattle.tag_block.specs.declared.group_verdict.GroupVerdict.{GroupVerdict}
use Rattle.tag_block.specs.declared.group_verdict.GroupVerdict.TheVariants.{Opens, Follows, Breaks}

-- a place in a group of 2 to 9 lines
pub record IsGroupPart (part : GroupPart) : Type 0 where
  pub several : 2 ≤ part.total
  pub most : part.total ≤ most_lines
  pub first : 1 ≤ part.number
  pub last : part.number ≤ part.total

-- which group a line belongs to
abbrev pub key_of : List ℕ → GroupPart → GroupKey
key_of sfi part = record { sfi = sfi; code = part.code }

-- the line has the group's total, and the number after those of its lines so far
abbrev pub follows : Entry → GroupPart → Bool
follows e part = (e.need == part.total) && ((e.next + 1) == part.number)

-- what a line is to the open group of its key
abbrev pub later_verdict : Option Entry → GroupPart → GroupVerdict
later_verdict None part = Breaks
later_verdict (Some e) part = if follows e part then Follows else Breaks

abbrev pub verdict : Option Entry → GroupPart → GroupVerdict
verdict o part = if part.number == 1 then Opens else later_verdict o part

-- the next line has the number that the group waits for
pub record IsNext (o : Option Entry) (part : GroupPart) : Type 0 where
  pub entry : Entry
  pub held : o ≡ Some entry
  pub number : part.number ≡ entry.next + 1

abbrev pub VerdictFits : Option Entry → GroupPart → GroupVerdict → Type 0
VerdictFits o part Opens = Unit {0}
VerdictFits o part Follows = IsNext o part
VerdictFits o part Breaks = Unit {0}

-- the group that a first line opens
abbrev pub opening : GroupPart → List ℕ → ℕ → Entry
opening part sentence moment = opened sentence part.total moment group_gap 0

module _ (cmp : GroupKey → GroupKey → Ordering) (s : SlotMap GroupKey) (k : GroupKey) (part : GroupPart) (sentence : List ℕ) (moment : ℕ) where
  -- the groups after a line, by what it is
  abbrev pub fed_by : GroupVerdict → SlotMap GroupKey
  fed_by Opens = begun_after cmp s k (opening part sentence moment)
  fed_by Follows = grown_after cmp s k (part.number - 1) sentence moment group_gap
  fed_by Breaks = released cmp s k

  abbrev pub fed_after : SlotMap GroupKey
  fed_after = fed_by (verdict (entry_at cmp s k) part)
