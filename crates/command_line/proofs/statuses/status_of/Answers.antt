use Rattle.std.proofs.Common.{refl}
use Rattle.command_line.proofs.statuses.status_of.Goals as goal

pub returns-in-TooLong-clause-status : goal.returns-in-TooLong-clause-status
returns-in-TooLong-clause-status c = rw c.in-TooLong.is refl
