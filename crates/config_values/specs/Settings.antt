-- A configuration as the settings of a gateway between the bus (ISO 11783) and the network (IEC 61162-450): all but where its links
-- listen and send.
use Rattle.std.specs.Prelude.{List, [], map}
use Rattle.n2k_id.specs.declared.pattern.Pattern.{Pattern}
use Rattle.history.specs.Settings.{RowRule, SentenceChoice, Settings, usual_sentences}
use Rattle.config_values.specs.declared.config.Config.{Config}
use Rattle.config_values.specs.declared.row_config.RowConfig.{RowConfig}
use Rattle.config_values.specs.declared.selective_config.SelectiveConfig.{SelectiveConfig}

-- a row that isn't taken from the devices that these patterns match
abbrev pub rule_of_row : List Pattern → RowConfig → RowRule
rule_of_row ignored row = record {
  sources = row.sources.items;
  others = row.others;
  ignored = ignored;
  timeout = row.timeout_ms;
  talker = row.talker;
  group = row.group;
}

-- all rows are taken from the others alone, and these sentences are read
unfoldable pub settings_ignoring : List Pattern → SentenceChoice → Config → Settings
settings_ignoring ignored optional c = record {
  name = c.name.0;
  address = c.address;
  sfi = c.sfi;
  fast_slots = c.fast_slots;
  iso_slots = c.iso_slots;
  group_slots = c.group_slots;
  ths = c.ths;
  presets = c.presets.items;
  rows = map (rule_of_row ignored) c.rows;
  net_sources = c.net_sources.items;
  optional_sentences = optional;
}

-- where nobody is ignored, and the usual sentences are read
abbrev pub settings_of : Config → Settings
settings_of c = settings_ignoring [] usual_sentences c

abbrev pub settings_by : SelectiveConfig → Settings
settings_by x = settings_ignoring x.ignored.items x.optional x.base
