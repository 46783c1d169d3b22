-- Rows that have to be said, and when what is configured of them is valid.
use Rattle.std.specs.Prelude.{◌≢◌, ℕ, List, replicate, All, Option, None, option_map}
use Rattle.std.specs.Int.{IsInRange}
use Rattle.std.specs.Option.{ForSome}
use Rattle.readings.specs.Rows.{rows_count}
use Rattle.config_values.specs.Rows.{IsTalker}
use Rattle.settings.specs.declared.watch.AlertConfig.{AlertConfig}
use Rattle.settings.specs.declared.watch.WatchConfig.{WatchConfig}

-- no row is watched
abbrev pub no_limits : List (Option ℕ)
no_limits = replicate rows_count None

abbrev pub no_watch : WatchConfig
no_watch = record { limits = no_limits; alerts = None }

-- the transmission group of alerts, where they are said
abbrev pub alert_group : WatchConfig → Option (List ℕ)
alert_group w = option_map (λ a. a.group) w.alerts

-- how long rows may stay unsaid, of those that are watched
abbrev pub AreLimits : List (Option ℕ) → Type 0
AreLimits limits = All (λ limit. ForSome limit (IsInRange 1000 600000)) limits

-- alerts have a group of their own
pub record AreAlerts (is_own : List ℕ → Type 0) (a : AlertConfig) : Type 0 where
  pub group : is_own a.group
  pub talker : IsTalker a.talker

pub record IsWatch (is_own : List ℕ → Type 0) (w : WatchConfig) : Type 0 where
  pub limits : AreLimits w.limits
  pub alerts : ForSome w.alerts (AreAlerts is_own)
