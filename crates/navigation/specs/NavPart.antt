-- The legs of plotters as a part beside the gateway: by what they are configured, and when they can be understood.
use Rattle.std.specs.Prelude.{List, Option, option_map}
use Rattle.n2k_id.specs.declared.pattern.Pattern.{Pattern}
use Rattle.sentence_text.specs.Names.{IsSfi}
use Rattle.config_values.specs.Rows.{IsTalker}
use Rattle.history.specs.Settings.{Settings}
use Rattle.settings.specs.declared.nav.NavConfig.{NavConfig}
use Rattle.settings.specs.declared.setup.Setup.{Setup}
use Rattle.navigation.specs.NavRule.{NavRule, nav_rule}

abbrev pub rule_in : List Pattern → Option NavConfig → Option NavRule
rule_in ignored nav = option_map (nav_rule ignored) nav

abbrev pub nav_asked : Setup → Option NavRule
nav_asked x = rule_in x.ignore.items x.nav

pub record SpeaksNav (x : NavRule) (c : Settings) : Type 0 where
  pub sfi : IsSfi c.sfi
  pub talker : IsTalker x.talker
