use Rattle.quantities.proofs.Order.{each_is_in_order}
use Rattle.quantities.proofs.laws.values_are_in_order.Goals as goal

pub returns : goal.returns
returns c = each_is_in_order
