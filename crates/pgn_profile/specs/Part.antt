-- The parts of a payload: where a value stands, what it may be, and how it is read and written.
use Rattle.std.specs.Prelude.{ℕ, ◌-◌, ◌*◌, ◌^◌, ℤ, pos, ◌-ℤ◌, int_lt, List, Option, Some, None, unwrap_or, if◌then◌else◌, ◌+◌, ◌*ℤ◌, [], ◌∷◌, Bool, ◌==◌, nat_le, slice_index}
use Rattle.std.specs.Int.{w64}
use Rattle.byteorder.specs.Endian.{little_bytes, low_bytes}
use Rattle.readings.specs.declared.range.Range.{Range}
use Rattle.readings.specs.Numbers.{unsigned_at, signed_at, bits_of}
use Rattle.std.specs.List.{splice}
use Rattle.readings.specs.Ranges.{Admits, from_to, up_to}

-- ---- a number

-- the largest value of so many bytes
abbrev pub largest_unsigned : ℕ → ℤ
largest_unsigned width = pos (2 ^ (8 * width) - 1)

abbrev pub largest_signed : ℕ → ℤ
largest_signed width = pos (2 ^ (8 * width - 1) - 1)

-- A value is available where it is in its range and none of the three largest of its width, which
-- say that there is no value.
abbrev pub available : ℤ → Range → ℤ → Option ℤ
available largest range value =
    if int_lt value range.low then None
    else if int_lt range.high value then None
    else if int_lt value (largest -ℤ pos 2) then Some value
    else None

abbrev pub unsigned_from : ℕ → Range → Option ℕ → Option ℤ
unsigned_from width range None = None
unsigned_from width range (Some value) = available (largest_unsigned width) range (pos value)

abbrev pub signed_from : ℕ → Range → Option ℤ → Option ℤ
signed_from width range None = None
signed_from width range (Some value) = available (largest_signed width) range value

-- the value of the field of so many bytes at a place, in a payload
abbrev pub unsigned_value : ℕ → ℕ → Range → List ℕ → Option ℤ
unsigned_value place width range payload = unsigned_from width range (unsigned_at payload place width)

abbrev pub signed_value : ℕ → ℕ → Range → List ℕ → Option ℤ
signed_value place width range payload = signed_from width range (signed_at payload place width)

-- the bytes of a value, those of the largest of their width where there is none
abbrev pub number_bytes : ℕ → ℤ → List ℕ
number_bytes width value = little_bytes width (low_bytes w64 width value)

abbrev pub unsigned_bytes : ℕ → Option ℤ → List ℕ
unsigned_bytes width value = number_bytes width (unwrap_or value (largest_unsigned width))

abbrev pub signed_bytes : ℕ → Option ℤ → List ℕ
signed_bytes width value = number_bytes width (unwrap_or value (largest_signed width))

-- ---- a part

-- What stands in the bytes of a part.
pub data Content : Type 0 where
  -- a number with its range, or none
  unsigned_number : Range → Content
  signed_number : Range → Content
  -- an unsigned number from a lowest to a highest one, kept times a factor
  multiple : ℕ → ℕ → ℕ → Content
  -- so many bits from a lowest one on, a number up to a greatest one; a greater one is read as 0
  code : ℕ → ℕ → ℕ → Content
  -- so many lowest bits, true where they are 1, and the bytes that say false and true
  flag : ℕ → ℕ → ℕ → Content

pub record Part : Type 0 where
  pub place : ℕ
  pub width : ℕ
  pub content : Content

abbrev pub part : ℕ → ℕ → Content → Part
part place width content = record { place = place; width = width; content = content }

-- a number by its place, its width and its range
abbrev pub unsigned : ℕ → ℕ → Range → Part
unsigned place width range = part place width (unsigned_number range)

abbrev pub signed : ℕ → ℕ → Range → Part
signed place width range = part place width (signed_number range)

-- the values that a content has
abbrev pub ValueOf : Content → Type 0
ValueOf (code low count most) = ℕ
ValueOf (flag count off on) = Bool
ValueOf _ = Option ℤ

-- the payload's bits (byte, lowest bit, number of bits) that select a row or say how it is meant
abbrev pub bits_at : ℕ → ℕ → ℕ → List ℕ → ℕ
bits_at place low count payload = bits_of (slice_index payload place) low count

abbrev pub times : ℕ → Option ℤ → Option ℤ
times factor None = None
times factor (Some value) = Some (value *ℤ pos factor)

-- a number that isn't known says no more than 0
abbrev pub known : ℕ → ℕ → ℕ
known most number = if nat_le number most then number else 0

-- the value of a content in so many bytes at a place of a payload
abbrev pub value_in : (content : Content) → ℕ → ℕ → List ℕ → ValueOf content
value_in (unsigned_number range) place width payload = unsigned_value place width range payload
value_in (signed_number range) place width payload = signed_value place width range payload
value_in (multiple factor low high) place width payload = times factor (unsigned_value place width (from_to (pos low) (pos high)) payload)
value_in (code low count most) place width payload = known most (bits_at place low count payload)
value_in (flag count off on) place width payload = bits_at place 0 count payload == 1

-- the bytes in which a value is written, none where it is only read
abbrev pub bytes_in : (content : Content) → ℕ → ValueOf content → List ℕ
bytes_in (unsigned_number range) width value = unsigned_bytes width value
bytes_in (signed_number range) width value = signed_bytes width value
bytes_in (multiple factor low high) width value = []
bytes_in (code low count most) width value = value * 2 ^ low ∷ []
bytes_in (flag count off on) width value = (if value then on else off) ∷ []

-- the value is in its range, if it has one, and more holds
abbrev pub IsIn : (content : Content) → ValueOf content → Type 0 → Type 0
IsIn (unsigned_number range) value More = Admits range value × More
IsIn (signed_number range) value More = Admits range value × More
IsIn (multiple factor low high) value More = Admits (from_to (pos (low * factor)) (pos (high * factor))) value × More
IsIn (code low count most) value More = Admits (up_to most) (Some (pos value)) × More
IsIn (flag count off on) value More = More

-- ---- several parts

abbrev pub Values : List Part → Type 0
Values [] = Unit {0}
Values (part ∷ parts) = ValueOf part.content × Values parts

abbrev pub values_in : (parts : List Part) → List ℕ → Values parts
values_in [] payload = tt
values_in (part ∷ parts) payload = (value_in part.content part.place part.width payload, values_in parts payload)

-- each value that has a range is in it
abbrev pub AreIn : (parts : List Part) → Values parts → Type 0
AreIn [] values = Unit {0}
AreIn (part ∷ parts) values = IsIn part.content values.0 (AreIn parts values.1)

-- the payload with the values in their places
abbrev pub filled : (parts : List Part) → Values parts → List ℕ → List ℕ
filled [] values payload = payload
filled (part ∷ parts) values payload =
    filled parts values.1 (splice payload part.place (part.place + part.width) (bytes_in part.content part.width values.0))
