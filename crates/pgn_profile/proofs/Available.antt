-- A range that ends below the three largest values of its width tells alone what is available.
use Rattle.std.proofs.Common.{◌≡◌, ℕ, ℤ, pos, ◌≤ℤ◌, ◌-ℤ◌, List, Some, None, w64, FitsSigned, sym, arith}
use Rattle.std.proofs.lemmas.Int.{ints}
use Rattle.readings.specs.Numbers.{unsigned_at}
use Rattle.readings.specs.declared.range.Range.{Range}
use Rattle.readings.specs.Ranges.{Holds}
use Rattle.pgn_profile.specs.Part.{available, largest_unsigned, unsigned_value}

pub available_within : (largest : ℤ) (range : Range) (value : ℤ) → range.high ≤ℤ (largest -ℤ pos 3) → Holds range value
    → available largest range value ≡ Some value
available_within largest range value ends inside = grind (arith, ints)

pub available_outside : (largest : ℤ) (range : Range) (value : ℤ) → (Holds range value → ⊥) → available largest range value ≡ None
available_outside largest range value outside = grind (arith, ints)

-- what doesn't fit 64 bits is above each range
too_large : (high : ℤ) (value : ℕ) → FitsSigned w64 high → (FitsSigned w64 (pos value) → ⊥) → pos value ≤ℤ high → ⊥
too_large high value fits large below = large (omega (arith, ints))

pub unsigned_too_large : (payload : List ℕ) (at width : ℕ) (range : Range) (value : ℕ) → FitsSigned w64 range.high
    → (FitsSigned w64 (pos value) → ⊥) → Some value ≡ unsigned_at payload at width → None ≡ unsigned_value at width range payload
unsigned_too_large payload at width range value fits large read =
    rw (sym read) (sym (available_outside (largest_unsigned width) range (pos value) (λ h. too_large range.high value fits large h.1)))
