use Rattle.joined_rmc.proofs.Commands.{commands_keep_joins as they_keep}
use Rattle.joined_rmc.proofs.laws.commands_keep_joins.Goals as goal

pub returns : goal.returns
returns c = they_keep
