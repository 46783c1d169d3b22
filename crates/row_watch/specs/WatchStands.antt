-- When what is kept of rows under watch stands for everything that ever came.
use Rattle.std.specs.Prelude.{◌≡◌, ℕ, ◌%◌, Bool, List, [], ◌∷◌, unwrap_or}
use Rattle.tag_block.specs.Tag.{most_count}
use Rattle.gate_events.specs.Emit.{Emit}
use Rattle.history.specs.Entries.{Entry, History}
use Rattle.history.specs.Settings.{Settings}
use Rattle.row_watch.specs.WatchKept.{Watch}
use Rattle.row_watch.specs.WatchOut.{any_silent, changes_before, is_silent, last_said, watch_out}
use Rattle.row_watch.specs.WatchRule.{WatchRule, Watched}
use Rattle.row_watch.specs.declared.watched_row.WatchedRow.{WatchedRow}

pub record RowStands (c : Settings) (s : ℕ) (h : History) (w : Watched) (k : WatchedRow) : Type 0 where
  pub row : k.row ≡ w.row
  pub limit : k.limit ≡ w.limit
  pub said : unwrap_or k.said s ≡ last_said c s w.row h
  pub silent : k.silent ≡ is_silent c s w h

-- each of the rows
abbrev pub RowsStand : Settings → ℕ → History → List Watched → List WatchedRow → Type 0
RowsStand c s h [] [] = Unit {0}
RowsStand c s h (w ∷ rows) (k ∷ kept) = RowStands c s h w k × RowsStand c s h rows kept
RowsStand c s h [] (k ∷ kept) = ⊥
RowsStand c s h (w ∷ rows) [] = ⊥

pub record WatchStands (r : WatchRule) (c : Settings) (s : ℕ) (h : History) (k : Watch) : Type 0 where
  pub alerts : k.alerts ≡ r.alerts
  pub sfi : k.sfi ≡ r.sfi
  pub rows : RowsStand c s h r.rows k.rows
  pub count : k.count ≡ changes_before c s r h % most_count

-- it tells whether any of the rows is silent
abbrev pub TellsSilence : Watch → Bool → Type 0
TellsSilence k silent = (r : WatchRule) (c : Settings) (s : ℕ) (h : History) → WatchStands r c s h k → silent ≡ any_silent c s r h

-- ---- what it stands for, and gives

abbrev pub watch_stands : WatchRule → Settings → ℕ → History → Watch → Type 0
watch_stands r c s h k = WatchStands r c s h k

abbrev pub watch_gives : WatchRule → Settings → ℕ → History → Entry → List Emit
watch_gives r c s h e = watch_out c s r h e

-- whenever the gateway will start
abbrev pub IsOpenedWatch : WatchRule → Watch → Type 0
IsOpenedWatch r k = (c : Settings) (s : ℕ) → watch_stands r c s [] k
