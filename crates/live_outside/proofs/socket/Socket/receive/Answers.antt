use Rattle.std.proofs.Common.{rules}
use Rattle.live_outside.proofs.socket.Socket.receive.Goals as goal

pub returns-in-Ok : goal.returns-in-Ok
returns-in-Ok c = search rules
