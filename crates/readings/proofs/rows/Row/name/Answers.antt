-- A row's name.
use Rattle.std.proofs.Common.{rules}
use Rattle.readings.proofs.rows.Row.name.Goals as goal

pub returns-clause-name : goal.returns-clause-name
returns-clause-name c = search rules
