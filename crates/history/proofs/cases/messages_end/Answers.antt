use Rattle.history.proofs.EndingCases.{all_at_once, left_before_won, taken_at_once, again_at_the_limit}
use Rattle.history.proofs.cases.messages_end.Goals as goal

pub returns-clause-all_at_once : goal.returns-clause-all_at_once
returns-clause-all_at_once c = all_at_once

pub returns-clause-left_before_won : goal.returns-clause-left_before_won
returns-clause-left_before_won c = left_before_won

pub returns-clause-taken_at_once : goal.returns-clause-taken_at_once
returns-clause-taken_at_once c = taken_at_once

pub returns-clause-again_at_the_limit : goal.returns-clause-again_at_the_limit
returns-clause-again_at_the_limit c = again_at_the_limit
