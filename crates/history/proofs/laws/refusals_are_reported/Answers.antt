use Rattle.history.proofs.FullReports.{full_is_reported, refusals_are_reported}
use Rattle.history.proofs.laws.refusals_are_reported.Goals as goal

pub returns-clause-frame : goal.returns-clause-frame
returns-clause-frame c = full_is_reported

pub returns-clause-history : goal.returns-clause-history
returns-clause-history c = refusals_are_reported
