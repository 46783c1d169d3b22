-- The NAME of the device that each row was taken from last, by the row's number, and what a message makes of it that is selected. Nothing
-- here speaks of what came before.
use Rattle.std.specs.Prelude.{Bool, false, ◌==◌, List, replicate, slice_index_or, slice_set, Option, Some, None, if◌then◌else◌}
use Rattle.report_rules.specs.Rules as rules
use Rattle.n2k_id.specs.declared.name.Name.{Name}
use Rattle.readings.specs.declared.rows.Row.{Row}
use Rattle.readings.specs.Rows.{row_of, row_number, rows_count}
use Rattle.gate_events.specs.declared.emit.Detail.TheVariants as detail
use Rattle.gate_events.specs.declared.emit.Report.{Report}
use Rattle.history.specs.Emits.{report_of}
use Rattle.parts.specs.SelectedMessage.{SelectedMessage}

abbrev pub no_names : List (Option Name)
no_names = replicate rows_count None

abbrev pub name_at : List (Option Name) → Row → Option Name
name_at names row = slice_index_or names (row_number row) None

abbrev pub names_after : Option SelectedMessage → List (Option Name) → List (Option Name)
names_after None names = names
names_after (Some x) names = slice_set names (row_number (row_of x.reading)) (Some x.name)

abbrev pub is_by : Name → Option Name → Bool
is_by name None = false
is_by name (Some other) = other.0 == name.0

abbrev pub change_by : Option SelectedMessage → List (Option Name) → Option Report
change_by None names = None
change_by (Some x) names =
    if is_by x.name (name_at names (row_of x.reading)) then None else Some (report_of rules.source_changed (detail.Row (row_of x.reading) x.source))
