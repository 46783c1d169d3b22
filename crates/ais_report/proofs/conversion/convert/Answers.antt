use Rattle.std.proofs.Common.{sym, ◌∙◌}
use Rattle.ais_report.proofs.ValidLemmas.{valid_result}
use Rattle.ais_report.proofs.conversion.convert.Goals as goal

pub returns-clause-valid : goal.returns-clause-valid
returns-clause-valid c = valid_result c.args.payload.now c.report_in.result (sym c.is_outside.ensures ∙ c.if-is_outside.false) c.report_in.ensures
