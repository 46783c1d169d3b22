use Rattle.bridge.proofs.BeatCases.{each_on_its_grid, no_address_is_told, not_ready_not_counted, silent_row_is_told}
use Rattle.bridge.proofs.cases.heartbeats_are_due.Goals as goal

pub returns-clause-each_on_its_grid : goal.returns-clause-each_on_its_grid
returns-clause-each_on_its_grid c = each_on_its_grid

pub returns-clause-not_ready_not_counted : goal.returns-clause-not_ready_not_counted
returns-clause-not_ready_not_counted c = not_ready_not_counted

pub returns-clause-no_address_is_told : goal.returns-clause-no_address_is_told
returns-clause-no_address_is_told c = no_address_is_told

pub returns-clause-silent_row_is_told : goal.returns-clause-silent_row_is_told
returns-clause-silent_row_is_told c = silent_row_is_told
