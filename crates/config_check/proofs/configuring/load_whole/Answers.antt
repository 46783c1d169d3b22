use Rattle.std.proofs.Common.{rules}
use Rattle.config_check.proofs.configuring.load_whole.Goals as goal

pub returns-in-Err-Memory : goal.returns-in-Err-Memory
returns-in-Err-Memory g c = search rules
