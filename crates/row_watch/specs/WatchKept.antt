-- What is kept of rows under watch, as plain values, and what a step of the gateway makes of it and tells. Nothing here speaks of what came
-- before.
use Rattle.std.specs.Prelude.{ℕ, ◌+◌, ◌%◌, Bool, true, false, not, ◌&&◌, List, [], ◌∷◌, ◌++◌, map, Option, Some, None, unwrap_or, slice_index_or, slice_set, if◌then◌else◌}
use Rattle.std.specs.List.{list_any}
use Rattle.readings.specs.declared.rows.Row.{Row}
use Rattle.readings.specs.declared.rows.Row.TheVariants as row
use Rattle.readings.specs.Rows.{row_of}
use Rattle.tag_block.specs.Tag.{most_count}
use Rattle.gate_events.specs.Emit.{Emit}
use Rattle.history.specs.Choice.{is_usable}
use Rattle.history.specs.Settings.{same_row}
use Rattle.parts.specs.SelectedMessage.{SelectedMessage}
use Rattle.settings.specs.declared.watch.AlertConfig.{AlertConfig}
use Rattle.row_watch.specs.declared.watched_row.WatchedRow.{WatchedRow}
use Rattle.row_watch.specs.WatchOut.{Change, alert_of, change, is_overdue, report_of}
use Rattle.row_watch.specs.WatchRule.{Watched}

-- ---- a row

abbrev pub opened_row : Row → ℕ → WatchedRow
opened_row row limit = record { row = row; limit = limit; said = None; silent = false }

abbrev pub is_said_by : SelectedMessage → Row → Bool
is_said_by x row = same_row (row_of x.reading) row && is_usable (Some x.reading)

abbrev pub said_at : Row → Option SelectedMessage → Option ℕ → Option ℕ
said_at row None before = before
said_at row (Some x) before = if is_said_by x row then Some x.moment else before

-- since a start, at a moment
abbrev pub silent_at : ℕ → ℕ → WatchedRow → Bool
silent_at start m w = is_overdue w.limit (unwrap_or w.said start) m

abbrev pub row_heard : Option SelectedMessage → WatchedRow → WatchedRow
row_heard new w = record w { said = said_at w.row new w.said }

abbrev pub row_after : ℕ → ℕ → Option SelectedMessage → WatchedRow → WatchedRow
row_after start m new w = record (row_heard new w) { silent = silent_at start m (row_heard new w) }

-- what is told of a row that has changed or not
abbrev pub change_in : WatchedRow → Bool → List Change
change_in w true = record { row = w.row; said = not w.silent } ∷ []
change_in w false = []

-- ---- all rows

abbrev pub rows_after : ℕ → ℕ → Option SelectedMessage → List WatchedRow → List WatchedRow
rows_after start m new rows = map (row_after start m new) rows

abbrev pub rows_change : ℕ → ℕ → Option SelectedMessage → List WatchedRow → List Change
rows_change start m new [] = []
rows_change start m new (w ∷ rows) = change w.row w.silent (row_after start m new w).silent ++ rows_change start m new rows

-- ---- what is told

-- what is kept: the rows, how alerts are said and by whom, and how many were said, modulo the greatest count
pub record Watch : Type 0 where
  pub rows : List WatchedRow
  pub alerts : Option AlertConfig
  pub sfi : List ℕ
  pub count : ℕ

abbrev pub opened_rows : List Watched → List WatchedRow
opened_rows rows = map (λ (w : Watched). opened_row w.row w.limit) rows

abbrev pub opened_watch : List Watched → Option AlertConfig → List ℕ → Watch
opened_watch rows alerts sfi = record { rows = opened_rows rows; alerts = alerts; sfi = sfi; count = 0 }

abbrev pub next_count : ℕ → ℕ
next_count count = (count + 1) % most_count

-- the count behind these changes
abbrev pub counted : ℕ → List Change → ℕ
counted count [] = count
counted count (x ∷ more) = counted (next_count count) more

abbrev pub told_from : Watch → ℕ → List Change → List Emit
told_from k count [] = []
told_from k count (x ∷ more) = report_of x ∷ (alert_of k.sfi k.alerts count x ++ told_from k (next_count count) more)

-- ---- a step

abbrev pub watch_after : ℕ → ℕ → Option SelectedMessage → Watch → Watch
watch_after start m new k = record k { rows = rows_after start m new k.rows; count = counted k.count (rows_change start m new k.rows) }

abbrev pub watch_tells : ℕ → ℕ → Option SelectedMessage → Watch → List Emit
watch_tells start m new k = told_from k k.count (rows_change start m new k.rows)

-- ---- the row at a place

abbrev pub row_in : Watch → ℕ → WatchedRow
row_in k at = slice_index_or k.rows at (opened_row row.HeadingTrue 0)

abbrev pub changed_at : ℕ → ℕ → Option SelectedMessage → ℕ → Watch → List Change
changed_at start m new at k = let w = row_in k at in change w.row w.silent (row_after start m new w).silent

abbrev pub row_taken : ℕ → ℕ → Option SelectedMessage → ℕ → Watch → Watch
row_taken start m new at k = record k { rows = slice_set k.rows at (row_after start m new (row_in k at)); count = counted k.count (changed_at start m new at k) }

abbrev pub row_tells : ℕ → ℕ → Option SelectedMessage → ℕ → Watch → List Emit
row_tells start m new at k = told_from k k.count (changed_at start m new at k)

-- ---- any of them

abbrev pub any_kept_silent : List WatchedRow → Bool
any_kept_silent rows = list_any (λ k. k.silent) rows
