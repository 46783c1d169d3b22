-- A heading that is said is within the circle.
use Rattle.std.proofs.Common.{◌≤◌, ◌≤ℤ◌, ℤ, pos, negsuc, arith}
use Rattle.std.proofs.lemmas.Int.{ints}
use Rattle.std.specs.Prelude.{unsigned_abs}
use Rattle.std.specs.Int.{int_rem_euclid}
use Rattle.sentence_fields.specs.Field.{count, degrees}
use Rattle.joined_heading.specs.Sentences.{tenths}

within : (z : ℤ) → unsigned_abs (int_rem_euclid z (pos 3600)) ≤ 3599
within (pos a) = omega arith
within (negsuc a) = omega arith

pub tenths_small : (raw : ℤ) → unsigned_abs (tenths raw) ≤ 3599
tenths_small raw = within (count degrees raw)

from_zero : (z : ℤ) → pos 0 ≤ℤ int_rem_euclid z (pos 3600)
from_zero (pos a) = omega (arith, ints)
from_zero (negsuc a) = omega (arith, ints)

pub tenths_positive : (raw : ℤ) → pos 0 ≤ℤ tenths raw
tenths_positive raw = from_zero (count degrees raw)
