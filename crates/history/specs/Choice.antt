-- Whose message is said of a row: what it says is its reading, and the row goes by its number.
use Rattle.std.specs.Prelude.{ℕ, Bool, List, Option, Some, None, option_map, option_and_then, is_some, if◌then◌else◌}
use Rattle.std.specs.List.{list_all}
use Rattle.readings.specs.declared.reading.Reading.{Reading}
use Rattle.readings.specs.declared.rows.Row.{Row}
use Rattle.readings.specs.Rows.{row_of, row_number, principal}
use Rattle.pgn_profile.specs.Profiled.{profiled}
use Rattle.pgn_profile.specs.declared.profiled.Profiled.{Profiled}
use Rattle.pgn_profile.specs.declared.profiled.Profiled.TheVariants as says
use Rattle.source_choice.specs.declared.rank.Rank.{Rank}
use Rattle.source_choice.specs.SubjectRules as ranks
use Rattle.source_choice.specs.SubjectRules.{SubjectRule}
use Rattle.claim_table.specs.declared.answer.Holder.{Holder}
use Rattle.history.specs.Settings.{Settings, RowRule, rule_at}
use Rattle.history.specs.Messages.{Message}
use Rattle.history.specs.Subjects as subjects
use Rattle.source_choice.specs.declared.told.Told.{Told}

-- ---- from whom a row is taken

abbrev pub taken_by : RowRule → SubjectRule
taken_by rule = record { sources = rule.sources; others = rule.others; ignored = rule.ignored; timeout = rule.timeout }

-- by the rows' numbers
abbrev pub row_rules : Settings → ℕ → SubjectRule
row_rules c number = taken_by (rule_at c.rows number)

abbrev pub rank_of : RowRule → ℕ → Option Rank
rank_of rule name = ranks.rank_of (taken_by rule) name

-- ---- what a message says, where it is in the profile

abbrev pub reading_in : Profiled → Option Reading
reading_in (says.Reading r) = Some r
reading_in says.Outside = None
reading_in says.Short = None

abbrev pub reading_of : Message → Option Reading
reading_of d = reading_in (profiled d.pgn d.payload)

-- it tells of its row, and is usable where the values are there without which it says nothing of it
abbrev pub told_by : Reading → Told
told_by r = record { subject = row_number (row_of r); usable = list_all is_some (principal r) }

abbrev pub told_in : Option Reading → Option Told
told_in r = option_map told_by r

abbrev pub row_told : Message → Option Told
row_told d = told_in (reading_of d)

abbrev pub is_row : Row → Option Reading → Bool
is_row row r = subjects.is_about (row_number row) (told_in r)

abbrev pub is_usable : Option Reading → Bool
is_usable r = subjects.is_usable (told_in r)

abbrev pub is_current : ℕ → ℕ → ℕ → Option Reading → Bool
is_current timeout m said_at r = subjects.is_current timeout m said_at (told_in r)

-- ---- who is fresh in a row, and whose message is selected

abbrev pub is_fresh : RowRule → List (Option Holder) → Row → ℕ → ℕ → List Message → Bool
is_fresh rule holders row source m older = subjects.is_fresh row_told (taken_by rule) holders (row_number row) source m older

abbrev pub is_first : RowRule → List (Option Holder) → Row → ℕ → List Message → Option Rank → Bool
is_first rule holders row m older rank = subjects.is_first row_told (taken_by rule) holders (row_number row) m older rank

abbrev pub selected_reading : Settings → List (Option Holder) → List Message → Message → Reading → Option Reading
selected_reading c holders older d r = if subjects.is_chosen row_told (row_rules c) holders older d (told_by r) then Some r else None

-- the reading of a message that is selected among those before it
abbrev pub selected : Settings → List (Option Holder) → List Message → Message → Option Reading
selected c holders older d = option_and_then (selected_reading c holders older d) (reading_of d)
