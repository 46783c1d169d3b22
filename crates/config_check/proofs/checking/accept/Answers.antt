use Rattle.std.proofs.Common.{rules}
use Rattle.config_check.proofs.checking.accept.Goals as goal

pub returns-in-Err : goal.returns-in-Err
returns-in-Err g c = search rules
