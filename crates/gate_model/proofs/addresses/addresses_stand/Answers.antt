use Rattle.gate_model.proofs.AddressSteps.{opening_stands_addresses, entries_stand_addresses}
use Rattle.gate_model.proofs.addresses.addresses_stand.Goals as goal

pub returns-clause-start : goal.returns-clause-start
returns-clause-start c = opening_stands_addresses

pub returns-clause-entries : goal.returns-clause-entries
returns-clause-entries c = entries_stand_addresses
