-- From which device a row is taken (NMEA 2000), over everything that ever came: an entry tells of it where it completes a selected message
-- of another NAME (ISO 11783-5) than that of the last one of the row, or the first one of the row. An address that changed hands is none.
use Rattle.std.specs.Prelude.{ℕ, Bool, false, ◌==◌, List, [], ◌∷◌, Option, Some, None, if◌then◌else◌}
use Rattle.report_rules.specs.Rules as rules
use Rattle.readings.specs.Rows.{row_of}
use Rattle.gate_events.specs.declared.emit.Detail.TheVariants as detail
use Rattle.gate_events.specs.declared.emit.Report.{Report}
use Rattle.gate_events.specs.Emit.{Emit, report}
use Rattle.history.specs.Emits.{report_of}
use Rattle.history.specs.Entries.{Entry, History}
use Rattle.history.specs.Settings.{Settings}
use Rattle.parts.specs.Selected.{Selected, last_of, selected_at}

-- of the same NAME
abbrev pub is_same : Option Selected → Selected → Bool
is_same None x = false
is_same (Some before) x = before.name == x.name

abbrev pub change_from : Option Selected → Selected → Option Report
change_from before x = if is_same before x then None else Some (report_of rules.source_changed (detail.Row (row_of x.reading) x.source))

abbrev pub told : Option Report → List Emit
told None = []
told (Some change) = report change ∷ []

module _ (c : Settings) (s : ℕ) (h : History) where
  -- what a message changes that is selected now
  abbrev pub changed : Option Selected → Option Report
  changed None = None
  changed (Some x) = change_from (last_of c s (row_of x.reading) h) x

  abbrev pub source_out : Entry → List Emit
  source_out e = told (changed (selected_at c s h e))
