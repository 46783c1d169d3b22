-- How many lines of groups wait for the rest of their group (IEC 61162-450).
use Rattle.std.specs.Prelude.{ℕ, List, length, Option, Some, None}
use Rattle.std.specs.List.{sum_by}
use Rattle.tag_block.specs.GroupRuns.{GroupLine}
use Rattle.history.specs.Heard.{Taken, group_keys, group_open}

abbrev pub held_in : Option (List GroupLine) → ℕ
held_in None = 0
held_in (Some lines) = length lines

-- of all groups that are open at a moment
abbrev pub lines_held : List Taken → ℕ → ℕ
lines_held lines m = sum_by (λ key. held_in (group_open lines key m)) (group_keys lines)
