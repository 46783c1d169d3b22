-- The settings of a valid configuration.
use Rattle.std.proofs.Common.{◌≡◌, ℕ, zero, suc, ◌<◌, List, [], ◌∷◌, length, get_or, map, refl, arith}
use Rattle.n2k_id.specs.declared.pattern.Pattern.{Pattern}
use Rattle.history.specs.Settings.{rule_at}
use Rattle.config_values.specs.declared.row_config.RowConfig.{RowConfig}
use Rattle.config_values.specs.Laws.{ConfigsAreSettings, LimitsHold, RowsAreSaid, RulesAreByNumber}
use Rattle.config_values.specs.Settings.{rule_of_row, settings_ignoring}
use Rattle.config_values.proofs.PresetLemmas.{opens_table}

pub limits_hold : LimitsHold
limits_hold c valid = record { fast = valid.fast_slots; iso = valid.iso_slots; groups = valid.group_slots }

pub rows_are_said : RowsAreSaid
rows_are_said c valid = record {
  talkers = λ k d within. (valid.rows k d within).talker;
  timeouts = λ k d within. (valid.rows k d within).timeout.1;
}

pub are_settings : ConfigsAreSettings
unfolding settings_ignoring
are_settings ignored optional c valid = let opens = opens_table c valid in record {
  settings = record { address = opens.address; apart = opens.apart; others = opens.others };
  limits = record { fast = valid.fast_slots.1; iso = valid.iso_slots.1; groups = valid.group_slots.1 };
}

rule_of_place : (ignored : List Pattern) (rows : List RowConfig) (n : ℕ) (d : RowConfig) → n < length rows
    → rule_at (map (rule_of_row ignored) rows) n ≡ rule_of_row ignored (get_or rows n d)
rule_of_place ignored [] n d within = absurd (omega arith)
rule_of_place ignored (row ∷ rows) zero d within = refl
rule_of_place ignored (row ∷ rows) (suc n) d within = rule_of_place ignored rows n d (omega arith)

pub rules_are_by_number : RulesAreByNumber
unfolding settings_ignoring
rules_are_by_number ignored optional c n d within = rule_of_place ignored c.rows n d within
