use Rattle.history.proofs.WindowCases.{each_window, within_a_window}
use Rattle.history.proofs.cases.windows_are_granted.Goals as goal

pub returns-clause-each_window : goal.returns-clause-each_window
returns-clause-each_window c = each_window

pub returns-clause-within_a_window : goal.returns-clause-within_a_window
returns-clause-within_a_window c = within_a_window
