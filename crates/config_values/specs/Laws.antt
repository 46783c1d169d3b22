-- What holds of each valid configuration, in the words of the crates that a gateway is made of.
use Rattle.std.specs.Prelude.{◌≡◌, ℕ, ◌<◌, ◌≤◌, false, List, length, slice_index_or, All}
use Rattle.std.specs.Int.{IsInRange}
use Rattle.n2k_id.specs.declared.pattern.Pattern.{Pattern}
use Rattle.claim_table.specs.Claims.{move_places, places, repeats, takes}
use Rattle.history.specs.AddressLaws.{AreSettings}
use Rattle.history.specs.FitLaws.{IsWithinLimits}
use Rattle.history.specs.Settings.{SentenceChoice, rule_at}
use Rattle.config_values.specs.declared.config.Config.{Config}
use Rattle.config_values.specs.declared.row_config.RowConfig.{RowConfig}
use Rattle.config_values.specs.Configs.{IsConfig}
use Rattle.config_values.specs.Rows.{IsTalker}
use Rattle.config_values.specs.Settings.{rule_of_row, settings_ignoring}

-- as many of each kind may be open as an assembler can be made for
pub record AreLimits (c : Config) : Type 0 where
  pub fast : IsInRange 1 256 c.fast_slots
  pub iso : IsInRange 1 32 c.iso_slots
  pub groups : IsInRange 1 32 c.group_slots

abbrev pub LimitsHold : Type 0
LimitsHold = (c : Config) → IsConfig c → AreLimits c

-- a table of claims can be opened with the address and the presets, and isn't refused
pub record OpensTable (c : Config) : Type 0 where
  pub address : c.address < move_places
  pub presets : All (λ p. p.address < places) c.presets.items
  pub apart : repeats c.presets.items ≡ false
  pub others : takes c.name.0 c.address c.presets.items ≡ false

abbrev pub TablesOpen : Type 0
TablesOpen = (c : Config) → IsConfig c → OpensTable c

-- each talker is two capital letters, and each timeout is at most a minute
pub record AreSaid (c : Config) : Type 0 where
  pub talkers : All (λ row. IsTalker row.talker) c.rows
  pub timeouts : All (λ row. row.timeout_ms ≤ 60000) c.rows

abbrev pub RowsAreSaid : Type 0
RowsAreSaid = (c : Config) → IsConfig c → AreSaid c

-- a gateway can be made of the settings, and every entry fits its room
pub record AreGatewaySettings (ignored : List Pattern) (optional : SentenceChoice) (c : Config) : Type 0 where
  pub settings : AreSettings (settings_ignoring ignored optional c)
  pub limits : IsWithinLimits (settings_ignoring ignored optional c)

abbrev pub ConfigsAreSettings : Type 0
ConfigsAreSettings = (ignored : List Pattern) (optional : SentenceChoice) (c : Config) → IsConfig c → AreGatewaySettings ignored optional c

-- the rule of each row is that of its place, and all ignore the same devices
abbrev pub RulesAreByNumber : Type 0
RulesAreByNumber =
    (ignored : List Pattern) (optional : SentenceChoice) (c : Config) (n : ℕ) (d : RowConfig) → n < length c.rows
    → rule_at (settings_ignoring ignored optional c).rows n ≡ rule_of_row ignored (slice_index_or c.rows n d)
