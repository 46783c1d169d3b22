use Rattle.std.proofs.Common.{arith}
use Rattle.std.proofs.lemmas.Int.{ints}
use Rattle.ais_report.proofs.field.fits.Goals as goal

pub returns-then-half-field : goal.returns-then-half-field
returns-then-half-field c = grind (arith, ints)

pub returns-else-half-field : goal.returns-else-half-field
returns-else-half-field c = grind (arith, ints)

pub returns-then-field-ge0 : goal.returns-then-field-ge0
returns-then-field-ge0 c = grind (arith, ints)

pub returns-else-field-ge0 : goal.returns-else-field-ge0
returns-else-field-ge0 c = grind (arith, ints)
