-- The position report of a ship (ITU-R M.1371, messages 1 to 3): one table of its fields, in the order of their bits.
use Rattle.std.specs.Prelude.{ℕ, ◌-◌, ◌^◌, ◌≤◌, ℤ, pos, negsuc, ◌-ℤ◌, ◌≤ℤ◌, suc, Bool, true, false, if◌then◌else◌, List, [], ◌∷◌}
use Rattle.std.specs.Int.{IsInRange}
use Rattle.std.specs.List.{AllByRecursion, flat_map}
use Rattle.ais_report.specs.declared.report.AisReport.{AisReport}
use Rattle.ais_report.specs.declared.field.Field.{Field}
use Rattle.ais_report.specs.Bits.{bit, bits_of}

-- ---- the table: width in bits, sign, value

abbrev pub unsigned : ℕ → ℕ → Field
unsigned width value = record { width = width; signed = false; value = pos value }

abbrev pub signed : ℕ → ℤ → Field
signed width value = record { width = width; signed = true; value = value }

abbrev pub flag : Bool → Field
flag value = unsigned 1 (bit value)

-- the rate of turn isn't told, and spare bits are 0
abbrev pub fields : AisReport → List Field
fields r =
    unsigned 6 r.kind
    ∷ unsigned 2 r.repeat
    ∷ unsigned 30 r.mmsi
    ∷ unsigned 4 r.status
    ∷ signed 8 (pos 0 -ℤ pos 128)
    ∷ unsigned 10 r.sog
    ∷ flag r.accuracy
    ∷ signed 28 r.longitude
    ∷ signed 27 r.latitude
    ∷ unsigned 12 r.cog
    ∷ unsigned 9 r.heading
    ∷ unsigned 6 r.second
    ∷ unsigned 2 r.manoeuvre
    ∷ unsigned 3 0
    ∷ flag r.raim
    ∷ unsigned 19 r.radio
    ∷ []

-- ---- a field as bits: negative numbers as two's complement

abbrev pub pattern_of : ℕ → ℤ → ℕ
pattern_of width (pos n) = n
pattern_of width (negsuc n) = 2 ^ width - suc n

abbrev pub field_bits : Field → List Bool
field_bits f = bits_of f.width (pattern_of f.width f.value)

-- the report as bits, 168 in all
unfoldable pub ais_bits : AisReport → List Bool
ais_bits r = flat_map field_bits (fields r)

-- ---- which reports there are

abbrev pub least : Field → ℤ
least f = if f.signed then pos 0 -ℤ pos (2 ^ (f.width - 1)) else pos 0

abbrev pub most : Field → ℤ
most f = if f.signed then pos (2 ^ (f.width - 1)) -ℤ pos 1 else pos (2 ^ f.width) -ℤ pos 1

-- the value fits the bits of its field
abbrev pub Fits : Field → Type 0
Fits f = (least f ≤ℤ f.value) × (f.value ≤ℤ most f)

abbrev pub most_mmsi : ℕ
most_mmsi = 999999999

pub record IsReport (r : AisReport) : Type 0 where
  pub kind : IsInRange 1 3 r.kind
  pub mmsi : r.mmsi ≤ most_mmsi
  pub fits : AllByRecursion Fits (fields r)
