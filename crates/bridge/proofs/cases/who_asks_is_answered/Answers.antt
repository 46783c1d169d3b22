use Rattle.bridge.proofs.PartCases.{asked_twice, asked_early, asked_by_nobody}
use Rattle.bridge.proofs.cases.who_asks_is_answered.Goals as goal

pub returns-clause-asked_twice : goal.returns-clause-asked_twice
returns-clause-asked_twice c = asked_twice

pub returns-clause-asked_early : goal.returns-clause-asked_early
returns-clause-asked_early c = asked_early

pub returns-clause-asked_by_nobody : goal.returns-clause-asked_by_nobody
returns-clause-asked_by_nobody c = asked_by_nobody
