-- All that one file configures, and when it is valid: the settings, and what further keys ask for beside them.
use Rattle.std.specs.Prelude.{◌≡◌, ◌≢◌, ℕ, false, true, List, [], All, length, Option, None, option_map, codes}
use Rattle.std.specs.Int.{IsInRange}
use Rattle.std.specs.Option.{ForSome}
use Rattle.sentence_text.specs.Names.{IsSfi}
use Rattle.readings.specs.Rows.{rows_count}
use Rattle.quantities.specs.About.{quantities_count}
use Rattle.history.specs.Settings.{usual_sentences}
use Rattle.history.specs.Settings as history
use Rattle.config_values.specs.Rows.{AreSources, IsTalker, usual_timeout}
use Rattle.config_values.specs.Settings.{settings_ignoring}
use Rattle.settings.specs.Heartbeat.{IsHeartbeat, no_heartbeat}
use Rattle.settings.specs.Settings.{IsOwnGroup, IsSettings}
use Rattle.settings.specs.declared.heading.HeadingConfig.{HeadingConfig}
use Rattle.settings.specs.declared.nav.NavConfig.{NavConfig}
use Rattle.settings.specs.declared.quantity_config.Quantities.{Quantities}
use Rattle.settings.specs.declared.quantity_config.QuantityConfig.{QuantityConfig}
use Rattle.settings.specs.declared.settings.Settings.{Settings}
use Rattle.settings.specs.declared.setup.Setup.{Setup}
use Rattle.settings.specs.Watch.{IsWatch, alert_group, no_watch}

-- without any further key
abbrev pub alone : Settings → Setup
alone s = record {
  settings = s;
  ignore = record { items = [] };
  optional_sentences = usual_sentences;
  quantities = None;
  sources = false;
  address = false;
  plain = None;
  plain_every_ms = 0;
  «record» = false;
  heading = None;
  nav = None;
  watch = no_watch;
  heartbeat = no_heartbeat;
}

-- the gateway itself, without the parts beside it
abbrev pub gateway_of : Setup → history.Settings
gateway_of x = settings_ignoring x.ignore.items x.optional_sentences x.settings.config

-- a group of its own: no row, no RMC and no reports of ships are sent to it
pub record IsFurtherGroup (s : Settings) (group : List ℕ) : Type 0 where
  pub from_rows : IsOwnGroup s.config.rows group
  pub from_rmc : ForSome s.rmc (λ r. r.group ≢ group)
  pub from_ais : ForSome s.ais (λ a. a.group ≢ group)

-- where nothing else was put: from all alike, for five seconds, and said by integrated instruments (IEC 61162-1)
abbrev pub usual_quantity : QuantityConfig
usual_quantity = record { sources = record { items = [] }; others = true; timeout_ms = usual_timeout; talker = codes "II" }

pub record IsQuantity (q : QuantityConfig) : Type 0 where
  pub sources : AreSources q.sources.items
  pub timeout : IsInRange 100 60000 q.timeout_ms
  pub talker : IsTalker q.talker

pub record AreQuantities (s : Settings) (q : Quantities) : Type 0 where
  pub group : IsFurtherGroup s q.group
  pub slots : IsInRange 1 256 q.slots
  pub each : All IsQuantity q.each

-- besides, no further quantities are sent to it
pub record IsPlainGroup (s : Settings) (quantities : Option Quantities) (group : List ℕ) : Type 0 where
  pub beside : IsFurtherGroup s group
  pub from_quantities : ForSome quantities (λ q. q.group ≢ group)

-- besides, no plain sentences are sent to it
pub record IsHeadingGroup (s : Settings) (quantities : Option Quantities) (plain : Option (List ℕ)) (group : List ℕ) : Type 0 where
  pub beside : IsPlainGroup s quantities group
  pub from_plain : ForSome plain (λ other. other ≢ group)

pub record IsHeading (is_own : List ℕ → Type 0) (j : HeadingConfig) : Type 0 where
  pub group : is_own j.group
  pub variation : IsQuantity j.variation

-- the transmission group of joined headings, where they are said
abbrev pub heading_group : Option HeadingConfig → Option (List ℕ)
heading_group heading = option_map (λ j. j.group) heading

-- nor joined headings
pub record IsNavGroup (s : Settings) (quantities : Option Quantities) (plain heading : Option (List ℕ)) (group : List ℕ) : Type 0 where
  pub beside : IsHeadingGroup s quantities plain group
  pub from_heading : ForSome heading (λ other. other ≢ group)

pub record IsNav (is_own : List ℕ → Type 0) (n : NavConfig) : Type 0 where
  pub group : is_own n.group
  pub slots : IsInRange 1 256 n.slots
  pub legs : IsQuantity n.legs

-- the transmission group of the legs of plotters, where they are said
abbrev pub nav_group : Option NavConfig → Option (List ℕ)
nav_group nav = option_map (λ n. n.group) nav

-- nor legs
pub record IsAlertGroup (s : Settings) (quantities : Option Quantities) (plain heading nav : Option (List ℕ)) (group : List ℕ) : Type 0 where
  pub beside : IsNavGroup s quantities plain heading group
  pub from_nav : ForSome nav (λ other. other ≢ group)

-- nor alerts
pub record IsHeartbeatGroup (s : Settings) (quantities : Option Quantities) (plain heading nav alerts : Option (List ℕ)) (group : List ℕ) : Type 0 where
  pub beside : IsAlertGroup s quantities plain heading nav group
  pub from_alerts : ForSome alerts (λ other. other ≢ group)

pub record IsSetup (x : Setup) : Type 0 where
  pub settings : IsSettings x.settings
  pub ignore : AreSources x.ignore.items
  pub quantities : ForSome x.quantities (AreQuantities x.settings)
  pub plain : ForSome x.plain (IsPlainGroup x.settings x.quantities)
  pub pace : IsInRange 0 60000 x.plain_every_ms
  pub heading : ForSome x.heading (IsHeading (IsHeadingGroup x.settings x.quantities x.plain))
  pub nav : ForSome x.nav (IsNav (IsNavGroup x.settings x.quantities x.plain (heading_group x.heading)))
  pub watch : IsWatch (IsAlertGroup x.settings x.quantities x.plain (heading_group x.heading) (nav_group x.nav)) x.watch
  pub heartbeat : IsHeartbeat x.heartbeat
  pub heartbeat_group :
      ForSome x.heartbeat.net (λ n. IsHeartbeatGroup x.settings x.quantities x.plain (heading_group x.heading) (nav_group x.nav) (alert_group x.watch) n.group)

-- what the types of a configuration hold: its identifier is one, and each row and quantity has its place
pub record IsTyped (x : Setup) : Type 0 where
  pub sfi : IsSfi x.settings.config.sfi
  pub rows : length x.settings.config.rows ≡ rows_count
  pub quantities : ForSome x.quantities (λ q. length q.each ≡ quantities_count)
