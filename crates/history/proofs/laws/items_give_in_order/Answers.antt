use Rattle.history.proofs.HeardSteps.{datagrams_give_in_order, readings_count_fast}
use Rattle.history.proofs.laws.items_give_in_order.Goals as goal

pub returns-clause-order : goal.returns-clause-order
returns-clause-order c = datagrams_give_in_order

pub returns-clause-fast : goal.returns-clause-fast
returns-clause-fast c = readings_count_fast
