use Rattle.bridge.proofs.PartCases.{first_of_two_is_told, address_is_no_change}
use Rattle.bridge.proofs.cases.changes_of_device_are_told.Goals as goal

pub returns-clause-first_of_two : goal.returns-clause-first_of_two
returns-clause-first_of_two c = first_of_two_is_told

pub returns-clause-address_is_no_change : goal.returns-clause-address_is_no_change
returns-clause-address_is_no_change c = address_is_no_change
