use Rattle.bridge.proofs.AddressCases.{command_is_told_next, loss_is_told, move_is_told}
use Rattle.bridge.proofs.cases.changes_of_the_own_address_are_told.Goals as goal

pub returns-clause-move_is_told : goal.returns-clause-move_is_told
returns-clause-move_is_told c = move_is_told

pub returns-clause-loss_is_told : goal.returns-clause-loss_is_told
returns-clause-loss_is_told c = loss_is_told

pub returns-clause-command_is_told_next : goal.returns-clause-command_is_told_next
returns-clause-command_is_told_next c = command_is_told_next
