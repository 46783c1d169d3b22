use Rattle.gate_model.proofs.AddressTells.{claims_are_told, commands_are_told}
use Rattle.gate_model.proofs.addresses.claims_and_commands_are_told.Goals as goal

pub returns-clause-claims : goal.returns-clause-claims
returns-clause-claims c = claims_are_told

pub returns-clause-commands : goal.returns-clause-commands
returns-clause-commands c = commands_are_told
