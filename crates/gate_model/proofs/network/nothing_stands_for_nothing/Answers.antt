use Rattle.gate_model.proofs.NetItems.{opening_stands_net}
use Rattle.gate_model.proofs.network.nothing_stands_for_nothing.Goals as goal

pub returns : goal.returns
returns c = opening_stands_net
