use Rattle.gate_model.proofs.NetItems.{time_stands_net}
use Rattle.gate_model.proofs.network.groups_end_as_time_passes.Goals as goal

pub returns : goal.returns
returns c = time_stands_net
