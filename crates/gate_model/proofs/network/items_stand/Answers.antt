use Rattle.gate_model.proofs.NetItems.{items_stand_net}
use Rattle.gate_model.proofs.network.items_stand.Goals as goal

pub returns : goal.returns
returns c = items_stand_net
