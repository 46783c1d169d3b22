-- When the kept NAMEs stand for everything that ever came, and what each step makes of them and tells.
use Rattle.std.specs.Prelude.{◌≡◌, ℕ, List, ◌∷◌, length, Option, option_map}
use Rattle.n2k_id.specs.declared.name.Name.{Name}
use Rattle.readings.specs.declared.rows.Row.{Row}
use Rattle.readings.specs.Rows.{rows_count}
use Rattle.gate_events.specs.declared.emit.Report.{Report}
use Rattle.history.specs.Entries.{Entry, History, command}
use Rattle.history.specs.Settings.{Settings}
use Rattle.gate_model.specs.Machine.{Machine}
use Rattle.gate_outbox.specs.Output.{Output}
use Rattle.parts.specs.Promises.{IsTaken}
use Rattle.parts.specs.Selected.{Selected, last_of, selected_at}
use Rattle.source_changes.specs.WatchKept.{name_at}
use Rattle.source_changes.specs.SourceOut.{changed}

abbrev pub name_of : Selected → Name
name_of x = record { 0 = x.name }

-- of each row the NAME is that of the last message that was selected
pub record WatchStands (c : Settings) (s : ℕ) (h : History) (names : List (Option Name)) : Type 0 where
  pub long : length names ≡ rows_count
  pub each : (row : Row) → name_at names row ≡ option_map name_of (last_of c s row h)

-- one more entry was taken: the NAMEs stand for the history with it, and what is told is what the history tells
pub record IsWatched (c : Settings) (s : ℕ) (h : History) (e : Entry) (after : List (Option Name)) (told : Option Report) : Type 0 where
  pub stands : WatchStands c s (e ∷ h) after
  pub told_is : told ≡ changed c s h (selected_at c s h e)

-- for every configuration, start moment, history and entry that the gateway took, where the NAMEs stood for that history
abbrev pub IsWatchStep : Machine → Output → List (Option Name) → List (Option Name) → Option Report → Type 0
IsWatchStep gateway left before after told =
    (c : Settings) (s : ℕ) (h : History) (e : Entry) → IsTaken c s h e gateway left → WatchStands c s h before → IsWatched c s h e after told

-- a command to go to an address is no message
abbrev pub CommandsKeepWatchedNames : Type 0
CommandsKeepWatchedNames =
    (c : Settings) (s : ℕ) (h : History) (m source address : ℕ) (names : List (Option Name))
    → WatchStands c s h names → WatchStands c s (command m source address ∷ h) names
