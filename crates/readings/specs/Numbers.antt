-- The number in the bytes of a field.
use Rattle.std.specs.Prelude.{ℕ, ◌+◌, ◌-◌, ◌*◌, ◌^◌, ◌/◌, ◌%◌, ℤ, pos, ◌-ℤ◌, List, [], ◌∷◌, length, take, drop, Option, Some, None, nat_le, nat_lt, if◌then◌else◌}

-- the value of bytes that stand with the lowest first
abbrev pub little_endian : List ℕ → ℕ
little_endian [] = 0
little_endian (byte ∷ bytes) = byte + 256 * little_endian bytes

-- the signed number that these many bytes of this unsigned value stand for, as two's complement
abbrev pub twos_complement : ℕ → ℕ → ℤ
twos_complement width value = if nat_lt value (2 ^ (8 * width - 1)) then pos value else pos value -ℤ pos (2 ^ (8 * width))

-- the bytes of a field, where none of them lies past the end
abbrev pub field_at : List ℕ → ℕ → ℕ → Option (List ℕ)
field_at bytes at width = if nat_le (at + width) (length bytes) then Some (take width (drop at bytes)) else None

abbrev pub unsigned_in : Option (List ℕ) → Option ℕ
unsigned_in None = None
unsigned_in (Some bytes) = Some (little_endian bytes)

abbrev pub signed_in : ℕ → Option (List ℕ) → Option ℤ
signed_in width None = None
signed_in width (Some bytes) = Some (twos_complement width (little_endian bytes))

-- the number in a field of so many bytes at a place
abbrev pub unsigned_at : List ℕ → ℕ → ℕ → Option ℕ
unsigned_at bytes at width = unsigned_in (field_at bytes at width)

abbrev pub signed_at : List ℕ → ℕ → ℕ → Option ℤ
signed_at bytes at width = signed_in width (field_at bytes at width)

-- so many bits of a byte, from the lowest of them on
abbrev pub bits_of : ℕ → ℕ → ℕ → ℕ
bits_of byte low count = byte / 2 ^ low % 2 ^ count
