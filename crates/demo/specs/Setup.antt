-- How the gateway is configured that takes the made-up input, as plain values.
use Rattle.std.specs.Prelude.{true, false, [], ◌∷◌, map, codes}
use Rattle.readings.specs.declared.rows.Row.{Row}
use Rattle.readings.specs.Rows.{about_of, rows}
use Rattle.history.specs.Settings.{RowRule, Settings, usual_sentences}
use Rattle.config_values.specs.Rows.{usual_timeout}

-- a row that is taken from all alike, and said by its own talker
abbrev pub row_said : Row → RowRule
row_said row = record {
  sources = [];
  others = true;
  ignored = [];
  timeout = usual_timeout;
  talker = (about_of row).talker;
  group = codes "NAVD";
}

unfoldable pub demo_settings : Settings
demo_settings = record {
  name = 0xC0328200FFC00001;
  address = 251;
  sfi = codes "II0001";
  fast_slots = 256;
  iso_slots = 8;
  group_slots = 8;
  ths = false;
  presets = [];
  rows = map row_said rows;
  net_sources = codes "II0002" ∷ [];
  optional_sentences = usual_sentences;
}
