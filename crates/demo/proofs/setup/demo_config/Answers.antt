use Rattle.std.proofs.Common.{◌≡◌, ◌∙◌, List, [], ap, false, map}
use Rattle.readings.specs.declared.rows.Row.{Row}
use Rattle.readings.specs.Rows.{rows}
use Rattle.config_values.specs.Settings.{rule_of_row, settings_ignoring, settings_of}
use Rattle.config_values.specs.declared.config.Config.{Config}
use Rattle.demo.specs.Setup.{demo_settings, row_said}
use Rattle.demo.proofs.Configuring.{is_config, same_settings}
use Rattle.demo.proofs.setup.demo_config.Goals as goal

pub returns : goal.returns
unfolding settings_ignoring
returns c =
    let made : Config = record {
      name = record { 0 = 13849274744920080385 };
      address = 251;
      sfi = c.sfi.result;
      fast_slots = 256;
      iso_slots = 8;
      group_slots = 8;
      ths = false;
      presets = c.new.result;
      rows = c.rows_of.result;
      net_sources = c.net_sources.result;
      ends = c.ends.result;
    } in
    let said : map (rule_of_row []) c.rows_of.result ≡ map row_said rows = c.rows_of.ensures.said ∙ ap (λ (all : List Row). map row_said all) c.all_rows.ensures in
    let same : settings_of made ≡ demo_settings = same_settings c.sfi.result c.new.result.items (map (rule_of_row []) c.rows_of.result) c.net_sources.result.items c.sfi.ensures c.new.ensures said c.net_sources.ensures in
    record { valid = is_config made same c.rows_of.ensures.valid c.ends.ensures; settings = same }
