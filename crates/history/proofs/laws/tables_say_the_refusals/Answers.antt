use Rattle.history.proofs.FastTable.{fast_rules_are_refusals}
use Rattle.history.proofs.SessionTable.{session_rules_are_verdicts, early_breaks_not_ready}
use Rattle.history.proofs.laws.tables_say_the_refusals.Goals as goal

pub returns-clause-fast : goal.returns-clause-fast
returns-clause-fast c = fast_rules_are_refusals

pub returns-clause-sessions : goal.returns-clause-sessions
returns-clause-sessions c = session_rules_are_verdicts

pub returns-clause-early : goal.returns-clause-early
returns-clause-early c = early_breaks_not_ready
