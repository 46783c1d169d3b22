use Rattle.std.proofs.Common.{rules}
use Rattle.row_traffic.proofs.network.rows.Readings.note.Goals as goal

pub returns : goal.returns
returns c = search rules
