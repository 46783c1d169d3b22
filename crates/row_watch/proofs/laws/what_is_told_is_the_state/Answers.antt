use Rattle.row_watch.proofs.ToldStates.{rows_are_apart, told_is_the_state}
use Rattle.row_watch.proofs.laws.what_is_told_is_the_state.Goals as goal

pub returns-clause-told : goal.returns-clause-told
returns-clause-told c = told_is_the_state

pub returns-clause-apart : goal.returns-clause-apart
returns-clause-apart c = rows_are_apart
