use Rattle.history.proofs.IsolationCases.{same_alone, one_done, unheard, not_refused}
use Rattle.history.proofs.cases.devices_are_apart.Goals as goal

pub returns-clause-same_alone : goal.returns-clause-same_alone
returns-clause-same_alone c = same_alone

pub returns-clause-one_done : goal.returns-clause-one_done
returns-clause-one_done c = one_done

pub returns-clause-unheard : goal.returns-clause-unheard
returns-clause-unheard c = unheard

pub returns-clause-not_refused : goal.returns-clause-not_refused
returns-clause-not_refused c = not_refused
