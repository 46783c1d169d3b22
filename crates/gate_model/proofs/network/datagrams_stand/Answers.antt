use Rattle.gate_model.proofs.NetItems.{datagrams_stand_net, other_entries_stand_net}
use Rattle.gate_model.proofs.network.datagrams_stand.Goals as goal

pub returns-clause-datagrams : goal.returns-clause-datagrams
returns-clause-datagrams c = datagrams_stand_net

pub returns-clause-others : goal.returns-clause-others
returns-clause-others c = other_entries_stand_net
