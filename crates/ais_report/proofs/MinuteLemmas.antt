-- How great a count of minutes can be.
use Rattle.std.proofs.Common.{◌≡◌, ℕ, zero, suc, ◌+◌, ◌*◌, ◌/◌, ◌<◌, ◌≤◌, Bool, true, false, Option, Some, None, w64, to_z, of_z, FitsSigned, refl, ap, ◌∙◌, if◌then◌else◌, arith}
use Rattle.std.specs.Prelude.{ℤ, pos, negsuc, ◌*ℤ◌, ◌-ℤ◌, ◌≤ℤ◌, int_lt, unsigned_abs}
use Rattle.std.specs.Int.{w32, w128}
use Rattle.std.proofs.lemmas.Int.{ints, to_z-of_z, fits_signed_from_abs}
use Rattle.readings.specs.Ranges.{Holds, either_side, longitude}
use Rattle.unit_fraction.specs.Round.{nearest, round}
use Rattle.ais_report.specs.Converted.{held, position_of, times}

nearest_within : (n m : ℕ) → n ≤ 50 * m → nearest (n * 3) 50 ≤ 3 * m
unfolding nearest
nearest_within n m le = omega (arith, le)

minutes_of_negative : (n : ℕ) → unsigned_abs (times (negsuc n) 3 50) ≡ nearest (suc n * 3) 50
minutes_of_negative n = grind (arith, ints)

pub minutes_within : (v : ℤ) (m : ℕ) → unsigned_abs v ≤ 50 * m → unsigned_abs (times v 3 50) ≤ 3 * m
minutes_within (pos n) m le = nearest_within n m le
minutes_within (negsuc n) m le = omega (arith, minutes_of_negative n, nearest_within (suc n) m le)

pub value_within : (v : ℤ) → Holds longitude v → unsigned_abs v ≤ 50 * 36000000
value_within v holds = omega (arith, ints, holds.0, holds.1)

-- ---- as a number of 32 bits

pub narrow : (value scaled : ℤ) → FitsSigned w64 value → FitsSigned w128 scaled → scaled ≡ times (to_z w64 (of_z w64 value)) 3 50
    → unsigned_abs value ≤ 50 * 36000000 → to_z w32 (of_z w32 (to_z w128 (of_z w128 scaled))) ≡ times value 3 50
narrow value scaled small fits is within =
    ap (λ z. to_z w32 (of_z w32 z)) (to_z-of_z w128 scaled fits ∙ (is ∙ ap (λ v. times v 3 50) (to_z-of_z w64 value small)))
    ∙ to_z-of_z w32 (times value 3 50) (fits_signed_from_abs w32 (times value 3 50) (omega (arith, minutes_within value 36000000 within)))

-- ---- of a position, where it is known or not

module _ (m absent : ℕ) (less : 3 * m ≤ absent) where
  position_by : (v : ℤ) (b c : Bool) → int_lt v (pos 0 -ℤ pos (50 * m)) ≡ b → int_lt (pos (50 * m)) v ≡ c
      → unsigned_abs (position_of (pos absent) (if b then None else if c then None else Some v)) ≤ absent
  position_by v true c eb ec = omega arith
  position_by v false true eb ec = omega arith
  position_by v false false eb ec =
      let small : unsigned_abs v ≤ 50 * m = grind (arith, ints) in omega (arith, minutes_within v m small, less)

  pub position_small : (o : Option ℤ) → unsigned_abs (position_of (pos absent) (held (either_side (50 * m)) o)) ≤ absent
  position_small None = omega arith
  position_small (Some v) = position_by v (int_lt v (pos 0 -ℤ pos (50 * m))) (int_lt (pos (50 * m)) v) refl refl
