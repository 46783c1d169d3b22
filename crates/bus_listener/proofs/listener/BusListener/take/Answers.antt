use Rattle.std.proofs.Common.{rules}
use Rattle.bus_listener.proofs.listener.BusListener.take.Goals as goal

pub returns-in-Single : goal.returns-in-Single
returns-in-Single g c = search rules
