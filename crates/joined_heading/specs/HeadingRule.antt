-- How headings are joined, as plain values.
use Rattle.std.specs.Prelude.{ℕ, Bool, List}
use Rattle.n2k_id.specs.declared.pattern.Pattern.{Pattern}
use Rattle.source_choice.specs.SubjectRules.{SubjectRule}
use Rattle.settings.specs.declared.heading.HeadingConfig.{HeadingConfig}

pub record HeadingRule : Type 0 where
  -- the transmission group, and the talker
  pub group : List ℕ
  pub talker : List ℕ
  -- whether HDM is said, too
  pub hdm : Bool
  -- from whom the variation is taken
  pub taken : SubjectRule

-- it isn't taken from the devices that these patterns match
abbrev pub heading_rule : List Pattern → HeadingConfig → HeadingRule
heading_rule ignored j = record {
  group = j.group;
  talker = j.variation.talker;
  hdm = j.hdm;
  taken = record { sources = j.variation.sources.items; others = j.variation.others; ignored = ignored; timeout = j.variation.timeout_ms };
}
