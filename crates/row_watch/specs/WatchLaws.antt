-- What was told last of a row under watch is its state; and an alert is a sentence of IEC 61162-1.
use Rattle.std.specs.Prelude.{◌≡◌, ℕ, length, IsTrue, Bool, false, not, List, [], ◌∷◌, Option, Some, None, if◌then◌else◌}
use Rattle.std.specs.List.{AllByRecursion, list_all}
use Rattle.readings.specs.declared.rows.Row.{Row}
use Rattle.sentence_text.specs.Byte.{is_capital}
use Rattle.sentence_profile.specs.Laws.{IsOneSentence}
use Rattle.gate_events.specs.declared.emit.Detail.{Detail}
use Rattle.gate_events.specs.declared.emit.Detail.TheVariants as detail
use Rattle.gate_events.specs.Emit.{Emit, can, net, report}
use Rattle.history.specs.Entries.{History}
use Rattle.history.specs.Settings.{Settings, same_row}
use Rattle.settings.specs.declared.watch.WatchConfig.{WatchConfig}
use Rattle.row_watch.specs.Alert.{alert_text}
use Rattle.row_watch.specs.WatchOut.{is_silent, watch_out}
use Rattle.row_watch.specs.WatchRule.{WatchRule, Watched, watch_rule}

-- whether a report says that the row is said
abbrev pub said_by : Row → Detail → Option Bool
said_by row (detail.Watched other said) = if same_row other row then Some said else None
said_by row _ = None

abbrev pub said_in : Row → Emit → Option Bool
said_in row (report what) = said_by row what.detail
said_in row (can f) = None
said_in row (net group bytes) = None

abbrev pub later : Option Bool → Option Bool → Option Bool
later None before = before
later (Some said) before = Some said

-- by the last of these emits that says it
abbrev pub last_in : Row → List Emit → Option Bool → Option Bool
last_in row [] before = before
last_in row (e ∷ emits) before = last_in row emits (later (said_in row e) before)

-- by the last report of everything that ever came
abbrev pub told_last : Settings → ℕ → WatchRule → Row → History → Option Bool
told_last c s r row [] = None
told_last c s r row (e ∷ h) = last_in row (watch_out c s r h e) (told_last c s r row h)

-- what was told of a row that is silent or not: without a report it isn't
abbrev pub IsTold : Option Bool → Bool → Type 0
IsTold None silent = silent ≡ false
IsTold (Some said) silent = silent ≡ not said

-- no row stands twice
abbrev pub AreApart : List Watched → Type 0
AreApart [] = Unit {0}
AreApart (w ∷ rows) = AllByRecursion (λ v. same_row v.row w.row ≡ false) rows × AreApart rows

abbrev pub ToldIsTheState : Type 0
ToldIsTheState =
    (r : WatchRule) (c : Settings) (s : ℕ) (h : History) → AreApart r.rows → AllByRecursion (λ w. IsTold (told_last c s r w.row h) (is_silent c s w h)) r.rows

-- the rows that are configured are
abbrev pub RowsAreApart : Type 0
RowsAreApart = (config : WatchConfig) (sfi : List ℕ) → AreApart (watch_rule config sfi).rows

-- a talker of two capital letters says an alert in a sentence that is read, and is no longer than one that is written may be
abbrev pub AlertsAreSentences : Type 0
AlertsAreSentences = (talker : List ℕ) (row : Row) (said : Bool) → length talker ≡ 2 → IsTrue (list_all is_capital talker) → IsOneSentence (alert_text talker row said)
