use Rattle.std.proofs.Common.{◌∙◌}
use Rattle.shipgate.proofs.exit_code.Goals as goal

pub returns-in-Err-clause-no_memory : goal.returns-in-Err-clause-no_memory
returns-in-Err-clause-no_memory c = rw c.in-Err.is (c.from-in-Err.ensures ∙ c.number.ensures.number)
