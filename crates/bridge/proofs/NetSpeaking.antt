-- Each valid configuration can be understood.
use Rattle.std.proofs.Common.{ℕ, zero, suc, ◌<◌, List, [], ◌∷◌, All, length, map, arith}
use Rattle.std.proofs.lemmas.List.Elements.{All-head, All-tail}
use Rattle.n2k_id.specs.declared.pattern.Pattern.{Pattern}
use Rattle.readings.specs.declared.rows.Row.{Row}
use Rattle.readings.specs.declared.rows.Row.TheVariants as row
use Rattle.readings.specs.Rows.{row_number}
use Rattle.history.specs.Settings.{rule_at}
use Rattle.config_values.specs.Rows.{IsRow, IsTalker}
use Rattle.config_values.specs.Settings.{rule_of_row, settings_ignoring}
use Rattle.config_values.specs.declared.row_config.RowConfig.{RowConfig}
use Rattle.bridge.specs.Beside.{beside}
use Rattle.bridge.specs.BridgeSettings.{bridge_settings_of}
use Rattle.bridge.specs.NetLaws.{ValidSettingsSpeak}

-- each row has its place
row_small : (row : Row) → row_number row < 17
row_small row.HeadingTrue = omega arith
row_small _ = omega arith

row_talker : (ignored : List Pattern) (rows : List RowConfig) (n : ℕ) → All IsRow rows → n < length rows
    → IsTalker (rule_at (map (rule_of_row ignored) rows) n).talker
row_talker ignored [] n each within = absurd (omega (arith, within))
row_talker ignored (r ∷ rows) zero each within = (All-head IsRow r rows each).talker
row_talker ignored (r ∷ rows) (suc n) each within = row_talker ignored rows n (All-tail IsRow r rows each) (omega (arith, within))

pub valid_settings_speak : ValidSettingsSpeak
unfolding bridge_settings_of settings_ignoring
valid_settings_speak x typed valid = record {
  sfi = typed.sfi;
  rows = λ row. row_talker x.ignore.items x.settings.config.rows (row_number row) valid.settings.config.rows (omega (arith, typed.rows, row_small row));
  parts = beside.understood x typed valid;
}
