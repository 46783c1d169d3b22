-- Which rows have to be said, and who is told that one isn't, as plain values.
use Rattle.std.specs.Prelude.{ℕ, List, [], ◌∷◌, slice_index_or, Option, Some, None}
use Rattle.readings.specs.declared.rows.Row.{Row}
use Rattle.readings.specs.Rows.{row_number, rows as all_rows}
use Rattle.settings.specs.declared.watch.AlertConfig.{AlertConfig}
use Rattle.settings.specs.declared.watch.WatchConfig.{WatchConfig}

-- a row, and how long it may stay unsaid, in milliseconds
pub record Watched : Type 0 where
  pub row : Row
  pub limit : ℕ

pub record WatchRule : Type 0 where
  -- the rows that have to be said, in their order
  pub rows : List Watched
  -- how alerts are said, where they are
  pub alerts : Option AlertConfig
  -- the system function identifier by which the gateway speaks
  pub sfi : List ℕ

-- the limit of a row, where it has one
abbrev pub limit_of : List (Option ℕ) → Row → Option ℕ
limit_of limits row = slice_index_or limits (row_number row) None

abbrev pub watched_if : Row → Option ℕ → List Watched → List Watched
watched_if row None others = others
watched_if row (Some limit) others = record { row = row; limit = limit } ∷ others

-- those of these rows that have a limit
abbrev pub watched_of : List (Option ℕ) → List Row → List Watched
watched_of limits [] = []
watched_of limits (row ∷ rows) = watched_if row (limit_of limits row) (watched_of limits rows)

unfoldable pub watch_rule : WatchConfig → List ℕ → WatchRule
watch_rule config sfi = record { rows = watched_of config.limits all_rows; alerts = config.alerts; sfi = sfi }

-- where no row has a limit there is no watch
abbrev pub if_any : List Watched → WatchRule → Option WatchRule
if_any [] rule = None
if_any (w ∷ watched) rule = Some rule

abbrev pub asked : WatchConfig → List ℕ → Option WatchRule
asked config sfi = let rule = watch_rule config sfi in if_any rule.rows rule
