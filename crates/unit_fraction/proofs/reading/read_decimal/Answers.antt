use Rattle.std.proofs.Common.{◌∙◌}
use Rattle.unit_fraction.proofs.DecimalLaws.{is_read}
use Rattle.unit_fraction.proofs.reading.read_decimal.Goals as goal

pub returns-clause-only : goal.returns-clause-only
returns-clause-only c = λ d h. c.parse.ensures ∙ is_read c.args.text.now d h
