-- Where the values of a quantity stand in a payload, and which payloads have them.
use Rattle.std.specs.Prelude.{◌≡◌, ℕ, ◌+◌, ◌-◌, ◌*◌, ◌^◌, ℤ, pos, ◌-ℤ◌, int_lt, not, Bool, true, ◌&&◌, ◌==◌, nat_le, List, [], ◌∷◌, Option, None}
use Rattle.readings.specs.declared.range.Range.{Range}
use Rattle.readings.specs.Ranges.{Admits, up_to}
use Rattle.pgn_profile.specs.Part.{bits_at, largest_signed, largest_unsigned, signed_value, times, unsigned_value}
use Rattle.quantities.specs.declared.part.Part.{Part}
use Rattle.quantities.specs.declared.part.Part.TheVariants.{Absent, Unsigned, Multiple, Signed}
use Rattle.quantities.specs.declared.part.Selector.{Selector}
use Rattle.quantities.specs.declared.part.Selector.TheVariants.{Always, Bits}

-- the payload is among those that are meant
abbrev pub selects : Selector → List ℕ → Bool
selects Always payload = true
selects (Bits place low count value) payload = bits_at place low count payload == value

-- what a payload says of a value
abbrev pub value_in : Part → List ℕ → Option ℤ
value_in Absent payload = None
value_in (Unsigned place width range) payload = unsigned_value place width range payload
value_in (Multiple place width high factor) payload = times factor (unsigned_value place width (up_to high) payload)
value_in (Signed place width range) payload = signed_value place width range payload

-- the range of a value as it is kept
abbrev pub bounds_of : Part → Range
bounds_of Absent = up_to 0
bounds_of (Unsigned place width range) = range
bounds_of (Multiple place width high factor) = up_to (high * factor)
bounds_of (Signed place width range) = range

-- each value that there is is in its part's range, and behind the last part there is none
abbrev pub AreIn : List Part → List (Option ℤ) → Type 0
AreIn [] [] = Unit {0}
AreIn [] (value ∷ values) = (value ≡ None) × AreIn [] values
AreIn (part ∷ parts) [] = Unit {0}
AreIn (part ∷ parts) (value ∷ values) = Admits (bounds_of part) value × AreIn parts values

-- ---- what is asked of an entry's selector and parts

-- the bits are those of a byte
abbrev pub is_selectable : Selector → Bool
is_selectable Always = true
is_selectable (Bits place low count value) = nat_le (low + count) 8

abbrev pub is_width : ℕ → Bool
is_width width = nat_le 1 width && nat_le width 8

-- a range ends below the three largest numbers of its width, which say that there is no value
abbrev pub is_below : Range → ℤ → Bool
is_below range largest = not (int_lt (largest -ℤ pos 3) range.high)

abbrev pub is_readable : Part → Bool
is_readable Absent = true
is_readable (Unsigned place width range) = is_width width && is_below range (largest_unsigned width)
is_readable (Multiple place width high factor) = is_width width && is_below (up_to high) (largest_unsigned width)
is_readable (Signed place width range) = is_width width && is_below range (largest_signed width)

-- a number of 32 bits, if there is one
abbrev pub IsWord : Option ℤ → Type 0
IsWord value = Admits (up_to (2 ^ 32 - 1)) value
