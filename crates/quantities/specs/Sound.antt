-- What is asked of the two tables, of payloads and of sentences: one test that computes.
use Rattle.std.specs.Prelude.{ℕ, ◌+◌, pos, ◌-ℤ◌, unsigned_abs, Bool, true, false, ◌&&◌, ◌||◌, not, ◌==◌, nat_le, nat_lt, List, [], ◌∷◌, length, slice_get, unwrap_or, if◌then◌else◌}
use Rattle.std.specs.List.{list_all}
use Rattle.readings.specs.declared.range.Range.{Range}
use Rattle.readings.specs.Ranges.{from_to}
use Rattle.pgn_profile.specs.declared.kinds.Kind.{Kind}
use Rattle.pgn_profile.specs.declared.kinds.Kind.TheVariants.{Single, Fast, Outside}
use Rattle.sentence_text.specs.Byte.{is_address_byte, is_field_byte}
use Rattle.sentence_fields.specs.declared.written_unit.WrittenUnit.{WrittenUnit}
use Rattle.sentence_fields.specs.Field.{is_sound}
use Rattle.quantities.specs.declared.about.Quantity.{Quantity}
use Rattle.quantities.specs.declared.part.Part.{Part}
use Rattle.quantities.specs.declared.part.Part.TheVariants.{Absent}
use Rattle.quantities.specs.declared.part.Selector.{Selector}
use Rattle.quantities.specs.declared.part.Selector.TheVariants.{Always, Bits}
use Rattle.quantities.specs.declared.payloads.Entry.{Entry}
use Rattle.quantities.specs.Part.{bounds_of, is_readable, is_selectable}
use Rattle.quantities.specs.About.{number_of}
use Rattle.quantities.specs.Told.{most_told, parts_of}
use Rattle.quantities.specs.Layout.{Column, nothing, letter, word, decimal, course, temperature, status, Layout, celsius}

-- ---- an entry can be read

abbrev pub is_entry_readable : Entry → Bool
is_entry_readable e = is_selectable e.selector && list_all is_readable (parts_of e)

-- ---- its values can be said

abbrev pub bounds_at : List Part → ℕ → Range
bounds_at parts at = bounds_of (unwrap_or (slice_get parts at) Absent)

abbrev pub celsius_of : Range → Range
celsius_of range = from_to (range.low -ℤ pos 273150) (range.high -ℤ pos 273150)

-- a unit says each value of a range
abbrev pub is_said_by : WrittenUnit → Range → Bool
is_said_by unit range = is_sound unit && nat_le (unsigned_abs range.low) unit.largest && nat_le (unsigned_abs range.high) unit.largest

-- the column can say the values of these parts
abbrev pub is_writable : List Part → Column → Bool
is_writable parts nothing = true
is_writable parts (letter c) = is_field_byte c
is_writable parts (word bytes) = list_all is_field_byte bytes
is_writable parts (decimal at unit) = is_said_by unit (bounds_at parts at)
is_writable parts (course at) = true
is_writable parts (temperature at) = is_said_by celsius (celsius_of (bounds_at parts at))
is_writable parts (status at) = true

-- the most bytes of a column's text, and those of columns with a comma before each
abbrev pub column_width : Column → ℕ
column_width nothing = 0
column_width (letter c) = 1
column_width (word bytes) = length bytes
column_width (decimal at unit) = unit.digits + 2
column_width (course at) = 5
column_width (temperature at) = celsius.digits + 2
column_width (status at) = 1

abbrev pub columns_width : List Column → ℕ
columns_width [] = 0
columns_width (c ∷ columns) = 1 + column_width c + columns_width columns

-- the most fields of a sentence
abbrev pub most_fields : ℕ
most_fields = 10

-- a sentence has a formatter of three characters, and room for its fields within 82 bytes
abbrev pub is_layout_sound : Layout → Bool
is_layout_sound layout =
    (length layout.formatter == 3) && list_all is_address_byte layout.formatter && nat_le (length layout.columns) most_fields
    && nat_le (columns_width layout.columns) 71

abbrev pub is_sayable : Layout → Entry → Bool
is_sayable layout e = is_layout_sound layout && list_all (is_writable (parts_of e)) layout.columns

-- ---- the entries of one parameter group

abbrev pub same_kind : Kind → Kind → Bool
same_kind Single Single = true
same_kind Fast Fast = true
same_kind Outside Outside = true
same_kind _ _ = false

-- no payload has both values
abbrev pub excludes : Selector → Selector → Bool
excludes Always other = false
excludes (Bits place low count value) Always = false
excludes (Bits place low count value) (Bits place' low' count' value') =
    (place == place') && (low == low') && (count == count') && not (value == value')

-- two entries give values at two places in the order of their quantities, or at one place, and then no payload is of both
abbrev pub is_placed : Entry → Entry → Bool
is_placed e f = if e.place == f.place then excludes e.selector f.selector else (nat_lt e.place f.place && nat_lt (number_of e.quantity) (number_of f.quantity))

-- they are of other groups, or of one that comes in one way, with one least length
abbrev pub is_beside : Entry → Entry → Bool
is_beside e f = not (e.pgn == f.pgn) || (same_kind e.kind f.kind && (e.least == f.least) && is_placed e f)

abbrev pub are_apart : List Entry → Bool
are_apart [] = true
are_apart (e ∷ table) = list_all (is_beside e) table && are_apart table

-- ---- the tables

abbrev pub is_entry_sound : (Quantity → Layout) → Entry → Bool
is_entry_sound layouts e = is_entry_readable e && nat_lt e.place most_told && is_sayable (layouts e.quantity) e

abbrev pub is_table_sound : (Quantity → Layout) → List Entry → Bool
is_table_sound layouts table = list_all (is_entry_sound layouts) table && are_apart table
