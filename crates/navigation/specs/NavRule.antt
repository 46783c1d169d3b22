-- How the legs of plotters are said, as plain values.
use Rattle.std.specs.Prelude.{ℕ, List}
use Rattle.n2k_id.specs.declared.pattern.Pattern.{Pattern}
use Rattle.source_choice.specs.SubjectRules.{SubjectRule}
use Rattle.settings.specs.declared.nav.NavConfig.{NavConfig}

pub record NavRule : Type 0 where
  -- the transmission group, and the talker
  pub group : List ℕ
  pub talker : List ℕ
  -- how many legs may be in the making at once
  pub slots : ℕ
  -- from whom the legs are taken, and how long a leg and an error count
  pub taken : SubjectRule

-- they aren't taken from the devices that these patterns match
abbrev pub nav_rule : List Pattern → NavConfig → NavRule
nav_rule ignored n = record {
  group = n.group;
  talker = n.legs.talker;
  slots = n.slots;
  taken = record { sources = n.legs.sources.items; others = n.legs.others; ignored = ignored; timeout = n.legs.timeout_ms };
}
