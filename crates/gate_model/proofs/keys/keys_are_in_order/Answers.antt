use Rattle.gate_model.proofs.KeyOrders.{fast_in_order, iso_in_order, groups_in_order}
use Rattle.gate_model.proofs.keys.keys_are_in_order.Goals as goal

pub returns-clause-fast : goal.returns-clause-fast
returns-clause-fast c = fast_in_order

pub returns-clause-sessions : goal.returns-clause-sessions
returns-clause-sessions c = iso_in_order

pub returns-clause-groups : goal.returns-clause-groups
returns-clause-groups c = groups_in_order
