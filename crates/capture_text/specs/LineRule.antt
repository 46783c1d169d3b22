-- The rules of a capture's lines, by their numbers.
use Rattle.std.specs.Prelude.{ℕ}
use Rattle.report_rules.specs.Rules.{capture_form, not_extended, line_long}
use Rattle.capture_text.specs.declared.line_rule.LineRule.{LineRule}
use Rattle.capture_text.specs.declared.line_rule.LineRule.TheVariants.{Form, NotExtended, Long}

abbrev pub rule_number : LineRule → ℕ
rule_number Form = capture_form
rule_number NotExtended = not_extended
rule_number Long = line_long
