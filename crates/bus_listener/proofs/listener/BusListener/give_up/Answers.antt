use Rattle.std.proofs.Common.{rules}
use Rattle.bus_listener.proofs.listener.BusListener.give_up.Goals as goal

pub returns-clause-after : goal.returns-clause-after
returns-clause-after g c = search rules
