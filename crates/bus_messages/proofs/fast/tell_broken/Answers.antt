use Rattle.std.proofs.Common.{arith}
use Rattle.gate_outbox.proofs.Telling.{reported_more}
use Rattle.bus_messages.proofs.fast.tell_broken.Goals as goal

pub returns : goal.returns
returns g c = grind (arith, reported_more)
