use Rattle.gate_model.proofs.StandsEntries.{entries_stand, commands_stand}
use Rattle.gate_model.proofs.stands.entries_stand.Goals as goal

pub returns-clause-entries : goal.returns-clause-entries
returns-clause-entries c = entries_stand

pub returns-clause-commands : goal.returns-clause-commands
returns-clause-commands c = commands_stand
