-- How further quantities are said, and from whom they are taken, as plain values.
use Rattle.std.specs.Prelude.{ℕ, Bool, false, List, [], map, slice_index_or}
use Rattle.n2k_id.specs.declared.pattern.Pattern.{Pattern}
use Rattle.source_choice.specs.SubjectRules.{SubjectRule}
use Rattle.settings.specs.declared.quantity_config.Quantities.{Quantities}
use Rattle.settings.specs.declared.quantity_config.QuantityConfig.{QuantityConfig}

pub record FurtherRule : Type 0 where
  -- the transmission group
  pub group : List ℕ
  -- how many of their fast packets may be open at once
  pub slots : ℕ
  -- whether the boat has two engines
  pub twin : Bool
  -- of each quantity, by its number, from whom it is taken, and who says it
  pub rules : List SubjectRule
  pub talkers : List (List ℕ)

-- a quantity that isn't taken from the devices that these patterns match
abbrev pub rule_of_quantity : List Pattern → QuantityConfig → SubjectRule
rule_of_quantity ignored q = record { sources = q.sources.items; others = q.others; ignored = ignored; timeout = q.timeout_ms }

unfoldable pub further_rule : List Pattern → Quantities → FurtherRule
further_rule ignored q = record {
  group = q.group;
  slots = q.slots;
  twin = q.twin_engines;
  rules = map (rule_of_quantity ignored) q.each;
  talkers = map (λ x. x.talker) q.each;
}

-- what is no quantity is taken from nobody
abbrev pub no_rule : SubjectRule
no_rule = record { sources = []; others = false; ignored = []; timeout = 0 }

abbrev pub rule_at : FurtherRule → ℕ → SubjectRule
rule_at x number = slice_index_or x.rules number no_rule

abbrev pub talker_at : FurtherRule → ℕ → List ℕ
talker_at x number = slice_index_or x.talkers number []
