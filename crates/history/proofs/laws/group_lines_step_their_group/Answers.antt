use Rattle.history.proofs.GroupSteps.{group_steps, lines_alone, group_ends}
use Rattle.history.proofs.laws.group_lines_step_their_group.Goals as goal

pub returns-clause-step : goal.returns-clause-step
returns-clause-step c = group_steps

pub returns-clause-alone : goal.returns-clause-alone
returns-clause-alone c = lines_alone

pub returns-clause-later : goal.returns-clause-later
returns-clause-later c = group_ends
