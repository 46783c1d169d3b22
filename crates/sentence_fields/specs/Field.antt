-- The text of a sentence's field, and of a sentence of fields.
use Rattle.std.specs.Prelude.{ℕ, unsigned_abs, ◌+◌, ◌*◌, ◌/◌, ◌%◌, ◌^◌, ◌≤◌, ◌<◌, ℤ, pos, negsuc, ◌*ℤ◌, Bool, true, false, ◌&&◌, nat_lt, nat_le, List, [], ◌∷◌, ◌++◌, Option, Some, None, IsTrue, if◌then◌else◌, map, length}
use Rattle.std.specs.List.{list_all}
use Rattle.readings.specs.declared.range.Range.{Range}
use Rattle.readings.specs.Ranges as ranges
use Rattle.sentence_fields.specs.declared.written_unit.WrittenUnit.{WrittenUnit}
use Rattle.std.specs.Fmt.{decimal}
use Rattle.unit_fraction.specs.Round.{round}
use Rattle.unit_fraction.specs.Text.{decimal_text, decimals}
use Rattle.sentence_text.specs.Byte.{is_field_byte}
use Rattle.sentence_fields.specs.declared.field.Field.{Field}
use Rattle.sentence_fields.specs.declared.field.Field.TheVariants.{Empty, Letter, Word, Decimal, Magnitude, Side, Angle, Degrees, Time, Digits, Satellites}
use Rattle.arrayvec.specs.ArrayVec.{ArrayVec}
use Rattle.sentence_text.specs.Sentence.{sentence}
use Rattle.sentence_fields.specs.declared.lines.SentenceText.{SentenceText}

-- ---- the conversions from raw values to what sentences print: the fraction, the decimals, the largest raw value without its sign, and the
-- most digits of what is printed

abbrev pub by : ℕ → ℕ → ℕ → Range → ℕ → WrittenUnit
by num den places range digits = record { num = num; den = den; places = places; largest = unsigned_abs range.high; digits = digits }

abbrev pub degrees : WrittenUnit
degrees = by 180000000000000 3141592653589793 1 ranges.deviation 4

abbrev pub degrees_per_minute : WrittenUnit
degrees_per_minute = by 3375000000000 3141592653589793 1 ranges.rate_of_turn 7

abbrev pub knots : WrittenUnit
knots = by 900 463 2 ranges.speed 6

abbrev pub kilometres_per_hour : WrittenUnit
kilometres_per_hour = by 18 5 2 ranges.speed 6

abbrev pub metres_per_second : WrittenUnit
metres_per_second = by 1 1 2 ranges.speed 5

abbrev pub metres : WrittenUnit
metres = by 1 1 2 ranges.depth 7

abbrev pub feet : WrittenUnit
feet = by 125 381 1 ranges.depth 6

abbrev pub fathoms : WrittenUnit
fathoms = by 125 2286 1 ranges.depth 5

abbrev pub offset_metres : WrittenUnit
offset_metres = by 1 10 2 ranges.offset 4

abbrev pub range_metres : WrittenUnit
range_metres = by 100 1 1 ranges.depth_scale 5

abbrev pub nautical_miles : WrittenUnit
nautical_miles = by 25 463 2 ranges.water_distance 9

abbrev pub track_miles : WrittenUnit
track_miles = by 5 926 3 ranges.cross_track 6

abbrev pub minutes : WrittenUnit
minutes = by 3 50 4 ranges.longitude 9

abbrev pub fix_minutes : WrittenUnit
fix_minutes = by 3 50000000000 4 ranges.fix_longitude 9

abbrev pub altitude_metres : WrittenUnit
altitude_metres = by 1 100000 1 ranges.altitude 5

abbrev pub separation_metres : WrittenUnit
separation_metres = by 1 10 1 ranges.separation 4

abbrev pub dilution : WrittenUnit
dilution = by 1 1 2 ranges.hdop 4

-- from the freezing point of water, as far to either side as kelvins go
abbrev pub celsius : WrittenUnit
celsius = record { num = 1; den = 100; places = 1; largest = 100000; digits = 4 }

-- ---- a field

-- the letter of a status or mode: the first where something is there, the second where nothing is
abbrev pub letter_where : Bool → ℕ → ℕ → ℕ
letter_where there first second = if there then first else second

-- a raw value in a unit: the nearest count of the last decimals that are printed
abbrev pub count : WrittenUnit → ℤ → ℤ
count unit raw = round (raw *ℤ pos unit.num) unit.den

abbrev pub is_negative : ℤ → Bool
is_negative (pos n) = false
is_negative (negsuc n) = true

-- a count of ten-thousandths of a minute as degrees and minutes
abbrev pub degrees_text : ℕ → ℕ → List ℕ
degrees_text width minutes =
    decimals width (minutes / 600000) ++ decimals 2 (minutes % 600000 / 10000) ++ (46 ∷ decimals 4 (minutes % 10000))

-- a time of day in 1e-4 second, cut off to hundredths
abbrev pub time_text : ℕ → List ℕ
time_text raw =
    let hundredths = raw / 100 in
    decimals 2 (hundredths / 360000) ++ decimals 2 (hundredths / 6000 % 60) ++ decimals 2 (hundredths / 100 % 60) ++ (46 ∷ decimals 2 (hundredths % 100))

abbrev pub text_of : Field → List ℕ
text_of Empty = []
text_of (Letter letter) = letter ∷ []
text_of (Word word) = word.now
text_of (Decimal None unit) = []
text_of (Decimal (Some raw) unit) = let c = count unit raw in decimal_text (is_negative c) (unsigned_abs c) unit.places
text_of (Magnitude None unit) = []
text_of (Magnitude (Some raw) unit) = decimal_text false (unsigned_abs (count unit raw)) unit.places
text_of (Side None unit positive negative) = []
text_of (Side (Some raw) unit positive negative) = (if is_negative (count unit raw) then negative else positive) ∷ []
text_of (Angle None) = []
text_of (Angle (Some raw)) = decimal_text false (unsigned_abs (count degrees raw) % 3600) 1
text_of (Degrees None unit width) = []
text_of (Degrees (Some raw) unit width) = degrees_text width (unsigned_abs (count unit raw))
text_of (Time None) = []
text_of (Time (Some raw)) = time_text (unsigned_abs raw)
text_of (Digits None width) = []
text_of (Digits (Some number) width) = decimals width number
text_of (Satellites None) = []
text_of (Satellites (Some number)) = if nat_lt (unsigned_abs number) 10 then decimals 2 (unsigned_abs number) else decimal (unsigned_abs number)

-- the most bytes that a field's text has
abbrev pub width_of : Field → ℕ
width_of Empty = 0
width_of (Letter letter) = 1
width_of (Word word) = length word.now
width_of (Decimal raw unit) = unit.digits + 2
width_of (Magnitude raw unit) = unit.digits + 1
width_of (Side raw unit positive negative) = 1
width_of (Angle raw) = 5
width_of (Degrees raw unit width) = width + 7
width_of (Time raw) = 9
width_of (Digits number width) = width
width_of (Satellites raw) = 3

-- the largest raw value has no more digits in the unit than the unit says
abbrev pub is_sound : WrittenUnit → Bool
is_sound unit =
    nat_lt 0 unit.den && nat_lt unit.places unit.digits && nat_le unit.digits 12
    && nat_lt (2 * (unit.largest * unit.num) + unit.den) (2 * unit.den * 10 ^ unit.digits)

-- the raw value is no larger than the unit says
abbrev pub IsCounted : WrittenUnit → Option ℤ → Type 0
IsCounted unit None = Unit {0}
IsCounted unit (Some raw) = unsigned_abs raw ≤ unit.largest

-- the field has a text, of printable bytes and at most its width
abbrev pub IsPrintable : Field → Type 0
IsPrintable (Letter letter) = IsTrue (is_field_byte letter)
IsPrintable (Word word) = IsTrue (list_all is_field_byte word.now)
IsPrintable (Decimal raw unit) = IsTrue (is_sound unit) × IsCounted unit raw
IsPrintable (Magnitude raw unit) = IsTrue (is_sound unit) × IsCounted unit raw
IsPrintable (Side raw unit positive negative) = IsTrue (nat_lt 0 unit.den) × IsTrue (is_field_byte positive) × IsTrue (is_field_byte negative)
IsPrintable (Degrees raw unit width) = IsTrue (is_sound unit) × IsCounted unit raw
IsPrintable (Satellites None) = Unit {0}
IsPrintable (Satellites (Some number)) = unsigned_abs number < 1000
IsPrintable _ = Unit {0}

-- the fields of a sentence, each behind its comma
abbrev pub body_text : List Field → List ℕ
body_text [] = []
body_text (field ∷ fields) = (44 ∷ text_of field) ++ body_text fields

abbrev pub body_width : List Field → ℕ
body_width [] = 0
body_width (field ∷ fields) = 1 + width_of field + body_width fields

-- ---- sentences

-- the most sentences of one reading: a depth has DPT and DBT, and a true heading HDT and THS
abbrev pub most_sentences : ℕ
most_sentences = 2

-- the bytes of each sentence
abbrev pub texts_of : ArrayVec SentenceText → List (List ℕ)
texts_of lines = map (λ text. text.bytes.items) lines.items

-- the one sentence of a talker, a formatter and fields
abbrev pub sentence_by : List ℕ → List ℕ → List Field → List ℕ
sentence_by talker formatter fields = sentence (record { start = 36; talker = talker; formatter = formatter; body = body_text fields })
