-- Joined headings as a part beside the gateway: by what they are configured, and when they can be understood.
use Rattle.std.specs.Prelude.{List, Option, option_map}
use Rattle.n2k_id.specs.declared.pattern.Pattern.{Pattern}
use Rattle.sentence_text.specs.Names.{IsSfi}
use Rattle.config_values.specs.Rows.{IsTalker}
use Rattle.history.specs.Settings.{Settings}
use Rattle.settings.specs.declared.heading.HeadingConfig.{HeadingConfig}
use Rattle.settings.specs.declared.setup.Setup.{Setup}
use Rattle.joined_heading.specs.HeadingRule.{HeadingRule, heading_rule}

abbrev pub rule_in : List Pattern → Option HeadingConfig → Option HeadingRule
rule_in ignored heading = option_map (heading_rule ignored) heading

abbrev pub heading_asked : Setup → Option HeadingRule
heading_asked x = rule_in x.ignore.items x.heading

pub record SpeaksHeading (x : HeadingRule) (c : Settings) : Type 0 where
  pub sfi : IsSfi c.sfi
  pub talker : IsTalker x.talker
