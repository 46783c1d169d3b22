use Rattle.serving.proofs.TurnCases.{a_run_is_recorded, receives_fail, sends_fail, frames_are_lines, reports_are_lines}
use Rattle.serving.proofs.cases.turns_are_served.Goals as goal

pub returns-clause-receives_fail : goal.returns-clause-receives_fail
returns-clause-receives_fail c = receives_fail

pub returns-clause-a_run_is_recorded : goal.returns-clause-a_run_is_recorded
returns-clause-a_run_is_recorded c = a_run_is_recorded

pub returns-clause-sends_fail : goal.returns-clause-sends_fail
returns-clause-sends_fail c = sends_fail

pub returns-clause-frames_are_lines : goal.returns-clause-frames_are_lines
returns-clause-frames_are_lines c = frames_are_lines

pub returns-clause-reports_are_lines : goal.returns-clause-reports_are_lines
returns-clause-reports_are_lines c = reports_are_lines
