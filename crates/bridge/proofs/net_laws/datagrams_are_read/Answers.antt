use Rattle.bridge.proofs.NetWhole.{datagrams_are_read as they_do}
use Rattle.bridge.proofs.net_laws.datagrams_are_read.Goals as goal

pub returns : goal.returns
returns c = they_do
