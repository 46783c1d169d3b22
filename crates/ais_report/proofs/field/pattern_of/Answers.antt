-- What fits its bits is a number of 32 bits as two's complement.
use Rattle.std.proofs.Common.{arith}
use Rattle.std.proofs.lemmas.Int.{ints}
use Rattle.ais_report.proofs.FitLemmas.{value_bounds}
use Rattle.ais_report.proofs.field.pattern_of.Goals as goal

pub overflow_add-result : goal.overflow_add-result
overflow_add-result c = omega (arith, ints, value_bounds _ _ _ c.requires.width c.requires.fits)

pub overflow_cast-result : goal.overflow_cast-result
overflow_cast-result c = let within = value_bounds _ _ _ c.requires.width c.requires.fits in grind (arith, ints)

pub overflow_cast-result-else-field-lt0 : goal.overflow_cast-result-else-field-lt0
overflow_cast-result-else-field-lt0 c = let within = value_bounds _ _ _ c.requires.width c.requires.fits in grind (arith, ints)

pub returns-then-field-lt0 : goal.returns-then-field-lt0
returns-then-field-lt0 c = let within = value_bounds _ _ _ c.requires.width c.requires.fits in grind (arith, ints)
