-- A command to go to an address is no message, and comes at the moment of the last entry: what is kept stands for the history with it.
use Rattle.std.proofs.Common.{◌≡◌, ℕ, ◌+◌, ◌%◌, Bool, true, false, List, [], ◌∷◌, ◌++◌, length, refl, sym, ap, ◌∙◌}
use Rattle.std.proofs.Math.Nat.{add-zero}
use Rattle.readings.specs.declared.rows.Row.{Row}
use Rattle.tag_block.specs.Tag.{most_count}
use Rattle.history.specs.Entries.{History, command, now}
use Rattle.history.specs.Settings.{Settings}
use Rattle.parts.specs.PartSteps.{KeepsCommands}
use Rattle.row_watch.specs.WatchOut.{Change, change, changes, changes_before, is_silent}
use Rattle.row_watch.specs.WatchRule.{Watched}
use Rattle.row_watch.specs.WatchStands.{RowsStand, watch_stands}
use Rattle.row_watch.specs.declared.watched_row.WatchedRow.{WatchedRow}

unchanged : (row : Row) (silent : Bool) → change row silent silent ≡ []
unchanged row true = refl
unchanged row false = refl

nothing_by : (c : Settings) (s : ℕ) (h : History) (source address : ℕ) (rows : List Watched) → changes c s rows h (command (now h) source address) ≡ []
nothing_by c s h source address [] = refl
nothing_by c s h source address (w ∷ rows) =
    ap (λ (xs : List Change). xs ++ changes c s rows h (command (now h) source address)) (unchanged w.row (is_silent c s w h))
    ∙ nothing_by c s h source address rows

rows_by : (c : Settings) (s : ℕ) (h : History) (source address : ℕ) (rows : List Watched) (kept : List WatchedRow) → RowsStand c s h rows kept
    → RowsStand c s (command (now h) source address ∷ h) rows kept
rows_by c s h source address [] [] stand = tt
rows_by c s h source address [] (k ∷ kept) stand = stand
rows_by c s h source address (w ∷ rows) [] stand = stand
rows_by c s h source address (w ∷ rows) (k ∷ kept) stand =
    (record { row = stand.0.row; limit = stand.0.limit; said = stand.0.said; silent = stand.0.silent }, rows_by c s h source address rows kept stand.1)

pub watch_keeps_commands : KeepsCommands watch_stands
watch_keeps_commands r c s h source address k are stands = record {
  alerts = stands.alerts;
  sfi = stands.sfi;
  rows = rows_by c s h source address r.rows k.rows stands.rows;
  count =
      stands.count
      ∙ ap (λ (n : ℕ). n % most_count) (sym (add-zero (changes_before c s r h)))
      ∙ ap (λ (xs : List Change). (changes_before c s r h + length xs) % most_count) (sym (nothing_by c s h source address r.rows));
}
