-- The second rudder is a row of its own.
use Rattle.std.proofs.Common.{sym, ap}
use Rattle.readings.specs.Rows.{row_of}
use Rattle.readings.proofs.reading.row.Goals as goal

pub returns-in-RudderSecond : goal.returns-in-RudderSecond
returns-in-RudderSecond c = sym (ap row_of c.in-RudderSecond.is)
