use Rattle.std.proofs.Common.{rules}
use Rattle.live_outside.proofs.socket.without_arrival.Goals as goal

pub returns-in-WouldBlock-clause-failure : goal.returns-in-WouldBlock-clause-failure
returns-in-WouldBlock-clause-failure c = search rules
