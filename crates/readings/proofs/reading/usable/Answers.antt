-- Both parts of a position are asked for.
use Rattle.std.proofs.Common.{rules}
use Rattle.readings.proofs.reading.usable.Goals as goal

pub returns-then-is_some-3 : goal.returns-then-is_some-3
returns-then-is_some-3 c = search rules

pub returns-else-is_some-3 : goal.returns-else-is_some-3
returns-else-is_some-3 c = search rules
