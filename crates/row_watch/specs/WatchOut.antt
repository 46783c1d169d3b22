-- Rows under watch, over everything that ever came: a row is silent where the last message that was selected of it, and that is usable, is
-- older than its limit. Where an entry changes that it is reported, and told on the network by an alert (ALR, IEC 61162-1). Nobody's claim
-- of an address (ISO 11783-5) plays a part.
use Rattle.std.specs.Prelude.{ℕ, ◌+◌, ◌-◌, ◌*◌, Bool, true, false, not, ◌&&◌, nat_lt, List, [], ◌∷◌, ◌++◌, length, Option, Some, None, if◌then◌else◌}
use Rattle.std.specs.List.{list_any}
use Rattle.report_rules.specs.Rules as rules
use Rattle.readings.specs.declared.rows.Row.{Row}
use Rattle.readings.specs.Rows.{row_of}
use Rattle.datagram450.specs.Datagram.{sentence_datagram}
use Rattle.gate_events.specs.declared.emit.Detail.TheVariants as detail
use Rattle.gate_events.specs.Emit.{Emit, net}
use Rattle.history.specs.Choice.{is_usable}
use Rattle.history.specs.Emits.{broken}
use Rattle.history.specs.Entries.{Entry, History, now}
use Rattle.history.specs.Settings.{Settings, same_row}
use Rattle.parts.specs.Selected.{Selected, selected_at}
use Rattle.settings.specs.declared.watch.AlertConfig.{AlertConfig}
use Rattle.row_watch.specs.Alert.{alert_text}
use Rattle.row_watch.specs.WatchRule.{WatchRule, Watched}

-- ---- when a row is silent

-- a message says its row where it is usable
abbrev pub says : Row → Selected → Bool
says row x = same_row (row_of x.reading) row && is_usable (Some x.reading)

-- the later of two moments at which a row is said
abbrev pub said_with : Row → Option Selected → ℕ → ℕ
said_with row None before = before
said_with row (Some x) before = if says row x then x.moment else before

-- longer ago than the limit, which is in milliseconds
abbrev pub is_overdue : ℕ → ℕ → ℕ → Bool
is_overdue limit said m = nat_lt (1000 * limit) (m - said)

-- ---- what is told of a row

-- whether it is said
pub record Change : Type 0 where
  pub row : Row
  pub said : Bool

-- a row that was silent before or not, and is it now or not
abbrev pub change : Row → Bool → Bool → List Change
change row false true = record { row = row; said = false } ∷ []
change row true false = record { row = row; said = true } ∷ []
change row false false = []
change row true true = []

abbrev pub report_of : Change → Emit
report_of x = broken rules.row_watched (detail.Watched x.row x.said)

-- the alert behind the report, where alerts are said; so many were said before
abbrev pub alert_of : List ℕ → Option AlertConfig → ℕ → Change → List Emit
alert_of sfi None before x = []
alert_of sfi (Some a) before x = net a.group (sentence_datagram sfi before (alert_text a.talker x.row x.said)) ∷ []

abbrev pub told : List ℕ → Option AlertConfig → ℕ → List Change → List Emit
told sfi alerts before [] = []
told sfi alerts before (x ∷ more) = report_of x ∷ (alert_of sfi alerts before x ++ told sfi alerts (before + 1) more)

-- ---- over the history

module _ (c : Settings) (s : ℕ) where
  -- the moment at which a row was said last; that of the start where it never was
  abbrev pub last_said : Row → History → ℕ
  last_said row [] = s
  last_said row (e ∷ h) = said_with row (selected_at c s h e) (last_said row h)

  -- behind the last entry
  abbrev pub is_silent : Watched → History → Bool
  is_silent w h = is_overdue w.limit (last_said w.row h) (now h)

  -- what an entry changes, in the order of the rows
  abbrev pub changes : List Watched → History → Entry → List Change
  changes [] h e = []
  changes (w ∷ rows) h e = change w.row (is_silent w h) (is_silent w (e ∷ h)) ++ changes rows h e

  module _ (r : WatchRule) where
    -- how many changes there were, each told by one line
    abbrev pub changes_before : History → ℕ
    changes_before [] = 0
    changes_before (e ∷ h) = changes_before h + length (changes r.rows h e)

    -- what an entry tells
    abbrev pub watch_out : History → Entry → List Emit
    watch_out h e = told r.sfi r.alerts (changes_before h) (changes r.rows h e)

    -- any of the rows is silent
    abbrev pub any_silent : History → Bool
    any_silent h = list_any (λ w. is_silent w h) r.rows
