-- Halves go up.
use Rattle.std.proofs.Common.{arith}
use Rattle.unit_fraction.proofs.Nearest.{nearest_by_rest}
use Rattle.unit_fraction.proofs.fraction.nearest_of.Goals as goal

pub returns-then-rest-by : goal.returns-then-rest-by
returns-then-rest-by c = grind (arith, nearest_by_rest)

pub returns-else-rest-by : goal.returns-else-rest-by
returns-else-rest-by c = grind (arith, nearest_by_rest)
