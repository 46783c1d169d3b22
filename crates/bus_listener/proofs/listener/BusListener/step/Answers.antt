use Rattle.std.proofs.Common.{rules}
use Rattle.gate_outbox.proofs.Telling.{told_more}
use Rattle.bus_listener.proofs.listener.BusListener.step.Goals as goal

pub returns : goal.returns
returns g c = search (rules, told_more)
