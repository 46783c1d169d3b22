-- A word times a number of 16 bits fits.
use Rattle.std.proofs.Common.{◌≡◌, ℕ, ◌<◌, ℤ, pos, ◌*ℤ◌, Some, FitsSigned, to_z, of_z, w64, arith, ap, ◌∙◌, refl}
use Rattle.std.proofs.lemmas.Int.{ints, fits_signed_from_abs, fits_signed_mul, to_z-of_z}
use Rattle.quantities.specs.Part.{IsWord}
use Rattle.quantities.proofs.part.times.Goals as goal

same : (value by : ℤ) (factor : ℕ) → IsWord (Some value) → by ≡ pos factor → factor < 65536 → to_z w64 (of_z w64 value) *ℤ to_z w64 (of_z w64 by) ≡ value *ℤ pos factor
same value by factor held is below =
    let the_value = to_z-of_z w64 value (fits_signed_from_abs w64 value (omega (arith, ints, held))) in
    let the_factor = to_z-of_z w64 by (fits_signed_from_abs w64 by (omega (arith, ints, is))) in
    rw (the_value, the_factor, is) refl

fits : (value by : ℤ) (factor : ℕ) → IsWord (Some value) → by ≡ pos factor → factor < 65536 → FitsSigned w64 (to_z w64 (of_z w64 value) *ℤ to_z w64 (of_z w64 by))
fits value by factor held is below =
    rw (same value by factor held is below) (fits_signed_mul w64 value (pos factor) 4294967295 65535 (omega (arith, ints, held)) (omega (arith, ints)) (omega arith))

pub overflow_mul-result : goal.overflow_mul-result
overflow_mul-result c = fits c.in_ok-value.field-0 c.from.result c.args.factor (rw c.in_ok-value.was at c.requires) c.from.ensures c.ranges.factor.fits

pub returns : goal.returns
returns c =
    let held : IsWord (Some c.in_ok-value.field-0) = rw c.in_ok-value.was at c.requires in
    let is = same c.in_ok-value.field-0 c.from.result c.args.factor held c.from.ensures c.ranges.factor.fits in
    rw c.in_ok-value.was (ap Some (to_z-of_z w64 _ (overflow_mul-result c) ∙ is))
