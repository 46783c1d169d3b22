-- A gateway between the bus (ISO 11783) and the network (IEC 61162-450), and the parts that act beside it, by what is configured.
use Rattle.std.specs.Prelude.{ℕ, ◌*◌, Bool, false, List, Option, is_some, option_map}
use Rattle.history.specs.Settings.{Settings}
use Rattle.settings.specs.Setup.{gateway_of}
use Rattle.settings.specs.declared.setup.Setup.{Setup}
use Rattle.bridge.specs.Beside.{beside}
use Rattle.bridge.specs.declared.replaced.Replaced.{Replaced}

-- the transmission group that all sentences are sent to once more, without headers and TAG blocks, and how long they pause, in microseconds
pub record PlainRule : Type 0 where
  pub group : List ℕ
  pub every : ℕ

pub record BridgeSettings : Type 0 where
  pub gateway : Settings
  -- by what each part beside it is configured
  pub parts : beside.rule
  -- how plain sentences are said, if they are
  pub plain : Option PlainRule
  -- the rows that plain sentences lack, since what a part says stands in their place
  pub replaced : Replaced
  -- whether what comes is written down
  pub records : Bool

-- a file says milliseconds
abbrev pub plain_rule : ℕ → List ℕ → PlainRule
plain_rule every_ms group = record { group = group; every = every_ms * 1000 }

-- the magnetic heading where headings are joined, and the cross track error where legs are said
abbrev pub replaced_in : Setup → Replaced
replaced_in x = record { heading = is_some x.heading; cross_track = is_some x.nav }

abbrev pub none_replaced : Replaced
none_replaced = record { heading = false; cross_track = false }

unfoldable pub bridge_settings_of : Setup → BridgeSettings
bridge_settings_of x = record {
  gateway = gateway_of x;
  parts = beside.asked x;
  plain = option_map (plain_rule x.plain_every_ms) x.plain;
  replaced = replaced_in x;
  records = x.«record»;
}
