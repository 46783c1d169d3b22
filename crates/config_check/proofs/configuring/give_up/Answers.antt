use Rattle.std.proofs.Common.{rules}
use Rattle.config_check.proofs.configuring.give_up.Goals as goal

pub returns-in-Refused-clause-gives_up : goal.returns-in-Refused-clause-gives_up
returns-in-Refused-clause-gives_up g c = search rules
