-- What the fields of a sentence say, field by field, and what is wrong with them. Fields are counted from 1.
--
-- A field that is missing has a fault of its form. Form comes before range, and what isn't kept is only counted.
use Rattle.std.specs.Prelude.{ℕ, Bool, false, List, [], ◌∷◌, Option, Some, None, Result, Ok, Err, if◌then◌else◌, true, ◌&&◌, nat_lt, nat_le, ◌^◌, unsigned_abs, zero, suc, ◌+◌, ◌-◌, ◌*◌, ◌/◌, ◌%◌, ◌<◌, ◌≤◌, ℤ, pos, negsuc, neg_ℤ, not, ◌==◌, length, take, drop, slice_get, unwrap_or, is_none}
use Rattle.sentence_profile.specs.declared.fault.FieldFault.{FieldFault}
use Rattle.sentence_profile.specs.declared.fault.FieldFault.TheVariants.{Form, Range}
use Rattle.readings.specs.declared.range.Range.{Range as Bounds}
use Rattle.readings.specs.Ranges as ranges
use Rattle.sentence_profile.specs.declared.read_unit.ReadUnit.{ReadUnit}
use Rattle.std.specs.Char.{is_ascii_digit}
use Rattle.std.specs.List.{list_all}
use Rattle.jiff_core.specs.Date.{epoch_day}
use Rattle.jiff_core.specs.declared.civil.date.Date.{Date}
use Rattle.readings.specs.Ranges.{date as date_range, satellites as satellites_range, method as method_range}
use Rattle.unit_fraction.specs.declared.decimal.Decimal.{Decimal}
use Rattle.unit_fraction.specs.declared.decimal.DecimalFault.{DecimalFault}
use Rattle.unit_fraction.specs.declared.decimal.DecimalFault.TheVariants.{Empty, Byte, Long}
use Rattle.unit_fraction.specs.Digits.{number as number_of_digits}
use Rattle.unit_fraction.specs.Reading.{read}
use Rattle.unit_fraction.specs.Round.{round, signed}
use Rattle.sentence_text.specs.Byte.{is_capital}
use Rattle.sentence_text.specs.Fields.{fields_of}
use Rattle.sentence_text.specs.declared.sentence.Sentence.{Sentence}
use Rattle.sentence_profile.specs.declared.fixed.Fixed.{Fixed}
use Rattle.sentence_profile.specs.Calendar.{date_of}

-- ---- what is read of a field or of a sentence: the value, or the first fault with its field's number

-- the fault of a part of a sentence, if it has one
abbrev pub fault : {A : Type 0} → Result A FieldFault → Option FieldFault
fault (Ok x) = None
fault (Err f) = Some f

-- the value that is read; none where there is a fault
abbrev pub value : {A : Type 0} → Result (Option A) FieldFault → Option A
value (Ok v) = v
value (Err f) = None

-- whether it is read that something holds
abbrev pub holds : Result Bool FieldFault → Bool
holds (Ok b) = b
holds (Err f) = false

-- a fault of its form where this is so
abbrev pub form_if : Bool → ℕ → Option FieldFault
form_if wrong at = if wrong then Some (Form at) else None

-- the first of these faults, which stand in the order of the fields; where there is none, what is read
abbrev pub reads : {A : Type 0} → List (Option FieldFault) → A → Result A FieldFault
reads [] x = Ok x
reads (None ∷ faults) x = reads faults x
reads (Some f ∷ faults) x = Err f

-- what is read behind a part that has no fault
abbrev pub given : {A B : Type 0} → Result A FieldFault → (A → Result B FieldFault) → Result B FieldFault
given (Ok x) next = next x
given (Err f) next = Err f

-- ---- the conversions from what sentences write to raw values: the fraction, the largest raw value without its sign, and whether a sign
-- may be written; each range goes from zero, or as far to either side of it

abbrev pub by : ℕ → ℕ → Bounds → Bool → ReadUnit
by num den range signed = record { num = num; den = den; most = unsigned_abs range.high; signed = signed }

abbrev pub angle : ReadUnit
angle = by 3141592653589793 18000000000000 ranges.angle false

abbrev pub deviation : ReadUnit
deviation = by 3141592653589793 18000000000000 ranges.deviation false

abbrev pub rudder : ReadUnit
rudder = by 3141592653589793 18000000000000 ranges.rudder true

abbrev pub rate_of_turn : ReadUnit
rate_of_turn = by 3141592653589793 337500000000 ranges.rate_of_turn true

abbrev pub knots : ReadUnit
knots = by 463 9 ranges.speed false

abbrev pub kilometres_per_hour : ReadUnit
kilometres_per_hour = by 250 9 ranges.speed false

abbrev pub metres_per_second : ReadUnit
metres_per_second = by 100 1 ranges.speed false

abbrev pub metres : ReadUnit
metres = by 100 1 ranges.depth false

abbrev pub offset_metres : ReadUnit
offset_metres = by 1000 1 ranges.offset true

abbrev pub range_metres : ReadUnit
range_metres = by 1 10 ranges.depth_scale false

abbrev pub nautical_miles : ReadUnit
nautical_miles = by 1852 1 ranges.water_distance false

abbrev pub track_miles : ReadUnit
track_miles = by 185200 1 ranges.cross_track false

abbrev pub latitude : ReadUnit
latitude = by 500000 3 ranges.latitude false

abbrev pub longitude : ReadUnit
longitude = by 500000 3 ranges.longitude false

abbrev pub fix_latitude : ReadUnit
fix_latitude = by 500000000000000 3 ranges.fix_latitude false

abbrev pub fix_longitude : ReadUnit
fix_longitude = by 500000000000000 3 ranges.fix_longitude false

abbrev pub altitude_metres : ReadUnit
altitude_metres = by 1000000 1 ranges.altitude true

abbrev pub separation_metres : ReadUnit
separation_metres = by 100 1 ranges.separation true

abbrev pub dilution : ReadUnit
dilution = by 100 1 ranges.hdop false

-- from the freezing point of water, as far to either side as kelvins go
abbrev pub celsius : ReadUnit
celsius = record { num = 1000; den = 1; most = 100000; signed = true }

-- the raw values that a quantity has
abbrev pub range_of : ReadUnit → Bounds
range_of q = if q.signed then ranges.either_side q.most else ranges.up_to q.most

-- the numbers are such that a decimal can be scaled by them
abbrev pub is_fit : ReadUnit → Bool
is_fit q = nat_lt 0 q.den && nat_le q.den (10 ^ 18) && nat_lt q.most (2 ^ 62)

-- ---- the fields

abbrev pub fields_in : Sentence → List (List ℕ)
fields_in sentence = fields_of sentence.body.now

abbrev pub field_at : List (List ℕ) → ℕ → Option (List ℕ)
field_at fields zero = None
field_at fields (suc n) = slice_get fields n

-- the text of a field, and none where it is missing
unfoldable pub text : List (List ℕ) → ℕ → List ℕ
text fields at = unwrap_or (field_at fields at) []

abbrev pub is_nothing : List ℕ → Bool
is_nothing [] = true
is_nothing (c ∷ cs) = false

-- there is no such field, or no byte in it
unfoldable pub is_blank : List (List ℕ) → ℕ → Bool
is_blank fields at = is_nothing (text fields at)

-- what a text says, where there is the field
abbrev pub text_says : {A : Type 0} → Option (List ℕ) → ℕ → (List ℕ → Result A FieldFault) → Result A FieldFault
text_says None at says = Err (Form at)
text_says (Some bytes) at says = says bytes

-- a field that is only counted
unfoldable pub unkept : List (List ℕ) → ℕ → Option FieldFault
unkept fields at = form_if (nat_lt (length fields) at) at

-- of a true direction in the first field and a magnetic one in the third only the magnetic one is there
unfoldable pub is_magnetic : List (List ℕ) → Bool
is_magnetic fields = is_blank fields 1 && not (is_blank fields 3)

-- ---- letters

-- the letter, or nothing where it may be left out
abbrev pub is_letter : ℕ → Bool → List ℕ → Bool
is_letter letter may_lack [] = may_lack
is_letter letter may_lack (c ∷ []) = c == letter
is_letter letter may_lack (c ∷ d ∷ rest) = false

-- the letter of a unit, which may be left out beside an empty value
unfoldable pub unit_letter : List (List ℕ) → ℕ → ℕ → Bool → Option FieldFault
unit_letter fields at letter beside_nothing =
    fault (text_says (field_at fields at) at (λ bytes. if is_letter letter beside_nothing bytes then Ok true else Err (Form at)))

-- one of two letters, or nothing where that may be: whether it is the first
abbrev pub which : ℕ → ℕ → ℕ → Bool → List ℕ → Result Bool FieldFault
which at first second may_lack bytes =
    if is_letter first false bytes then Ok true
    else if is_letter second may_lack bytes then Ok false
    else Err (Form at)

-- a status: A is valid, V is not, and nothing counts as V where the values that it speaks of are empty
unfoldable pub status : List (List ℕ) → ℕ → Bool → Result Bool FieldFault
status fields at beside_nothing = text_says (field_at fields at) at (which at 65 86 beside_nothing)

-- R or T before a wind: whether it is the true one
unfoldable pub reference : List (List ℕ) → ℕ → Result Bool FieldFault
reference fields at = text_says (field_at fields at) at (which at 84 82 false)

-- a letter for a sign: whether it is the negative one; beside an empty value it is ignored
unfoldable pub side : List (List ℕ) → ℕ → ℕ → ℕ → Bool → Result Bool FieldFault
side fields at positive negative beside_nothing =
    text_says (field_at fields at) at (λ bytes. if beside_nothing then Ok false else which at negative positive false bytes)

-- the mode of a heading: any capital, and V where it is not valid
abbrev pub mode_of : ℕ → List ℕ → Result Bool FieldFault
mode_of at [] = Err (Form at)
mode_of at (c ∷ []) = if is_capital c then Ok (not (c == 86)) else Err (Form at)
mode_of at (c ∷ d ∷ rest) = Err (Form at)

unfoldable pub heading_mode : List (List ℕ) → ℕ → Result Bool FieldFault
heading_mode fields at = text_says (field_at fields at) at (mode_of at)

-- ---- numbers

-- nothing, or a decimal, without a sign unless that is allowed
abbrev pub decimal_in : ℕ → Bool → Result Decimal DecimalFault → Result (Option Decimal) FieldFault
decimal_in at may_be_signed (Ok d) = if d.negative && not may_be_signed then Err (Form at) else Ok (Some d)
decimal_in at may_be_signed (Err Empty) = Ok None
decimal_in at may_be_signed (Err (Byte place)) = Err (Form at)
decimal_in at may_be_signed (Err Long) = Err (Form at)

unfoldable pub decimal : List (List ℕ) → ℕ → Bool → Result (Option Decimal) FieldFault
decimal fields at may_be_signed = text_says (field_at fields at) at (λ bytes. decimal_in at may_be_signed (read bytes))

-- the raw value: the nearest whole number
unfoldable pub raw_of : ReadUnit → Decimal → ℤ
raw_of q d = round (signed d.negative (d.digits * q.num)) (10 ^ d.places * q.den)

-- the raw value of what is written, within the quantity's range
abbrev pub scaled : ℕ → ReadUnit → Option Decimal → Result (Option ℤ) FieldFault
scaled at q None = Ok None
scaled at q (Some d) = if nat_le (unsigned_abs (raw_of q d)) q.most then Ok (Some (raw_of q d)) else Err (Range at)

unfoldable pub number : List (List ℕ) → ℕ → ReadUnit → Result (Option ℤ) FieldFault
number fields at q = given (decimal fields at q.signed) (scaled at q)

-- a number, and behind it the letter of its unit
unfoldable pub measure : List (List ℕ) → ℕ → ReadUnit → ℕ → Result (Option ℤ) FieldFault
measure fields at q letter = given (number fields at q) (λ v. reads (unit_letter fields (at + 1) letter (is_none v) ∷ []) v)

-- the same in two units, the second of which isn't kept where the first isn't empty
unfoldable pub either_unit : List (List ℕ) → ℕ → ReadUnit → ℕ → ReadUnit → ℕ → Result (Option ℤ) FieldFault
either_unit fields at q letter other other_letter =
    given (measure fields at q letter)
    (λ v. if is_none v then measure fields (at + 2) other other_letter else reads (unkept fields (at + 2) ∷ unkept fields (at + 3) ∷ []) v)

-- a raw value with the sign that a letter stands for
abbrev pub toward : Bool → Option ℤ → Option ℤ
toward negative None = None
toward negative (Some raw) = Some (if negative then neg_ℤ raw else raw)

-- a number, and behind it the letter of its sign
unfoldable pub sided : List (List ℕ) → ℕ → ReadUnit → ℕ → ℕ → Result (Option ℤ) FieldFault
sided fields at q positive negative =
    given (number fields at q) (λ v. given (side fields (at + 1) positive negative (is_none v)) (λ n. Ok (toward n v)))

-- the unit of a wind's speed: N, K or M
abbrev pub speed_unit_of : ℕ → Bool → List ℕ → Result ReadUnit FieldFault
speed_unit_of at beside_nothing bytes =
    if is_letter 78 beside_nothing bytes then Ok knots
    else if is_letter 75 false bytes then Ok kilometres_per_hour
    else if is_letter 77 false bytes then Ok metres_per_second
    else Err (Form at)

unfoldable pub speed_unit : List (List ℕ) → ℕ → Bool → Result ReadUnit FieldFault
speed_unit fields at beside_nothing = text_says (field_at fields at) at (speed_unit_of at beside_nothing)

-- a speed whose unit stands behind it, so that its range comes after the unit
unfoldable pub wind_speed : List (List ℕ) → ℕ → Result (Option ℤ) FieldFault
wind_speed fields at =
    given (decimal fields at false) (λ d. given (speed_unit fields (at + 1) (is_none d)) (λ q. scaled at q d))

-- ---- digits

-- the digits behind a point, where there is one, at most so many
abbrev pub part_behind : ℕ → List ℕ → Option (List ℕ)
part_behind most [] = Some []
part_behind most (c ∷ cs) = if (c == 46) && nat_le (length cs) most && list_all is_ascii_digit cs then Some cs else None

abbrev pub with_part : ℕ → Option (List ℕ) → Option Fixed
with_part whole None = None
with_part whole (Some part) = Some (record { whole = whole; part = number_of_digits part; places = length part })

-- so many digits, and behind a point, where there is one, at most so many more
unfoldable pub fixed_in : ℕ → ℕ → List ℕ → Option Fixed
fixed_in width most bytes =
    if nat_le width (length bytes) && list_all is_ascii_digit (take width bytes) then with_part (number_of_digits (take width bytes)) (part_behind most (drop width bytes)) else None

-- degrees and minutes as minutes with decimals
abbrev pub minutes_of : Fixed → Decimal
minutes_of x = record { negative = false; digits = (x.whole / 100 * 60 + x.whole % 100) * 10 ^ x.places + x.part; places = x.places }

abbrev pub degrees_in : ℕ → ReadUnit → Option Fixed → Result (Option ℤ) FieldFault
degrees_in at q None = Err (Form at)
degrees_in at q (Some x) = if nat_le 60 (x.whole % 100) then Err (Range at) else scaled at q (Some (minutes_of x))

abbrev pub degrees_of : ℕ → ReadUnit → ℕ → List ℕ → Result (Option ℤ) FieldFault
degrees_of at q width [] = Ok None
degrees_of at q width (c ∷ cs) = degrees_in at q (fixed_in width 9 (c ∷ cs))

-- degrees of so many digits less two and minutes of two, with at most nine decimals
unfoldable pub degrees : List (List ℕ) → ℕ → ReadUnit → ℕ → Result (Option ℤ) FieldFault
degrees fields at q width = text_says (field_at fields at) at (degrees_of at q width)

-- the same, and behind it the letter of its sign
unfoldable pub coordinate : List (List ℕ) → ℕ → ReadUnit → ℕ → ℕ → ℕ → Result (Option ℤ) FieldFault
coordinate fields at q width positive negative =
    given (degrees fields at q width) (λ v. given (side fields (at + 1) positive negative (is_none v)) (λ n. Ok (toward n v)))

-- hours, minutes and seconds of two digits each, and decimals of a second, as 1e-4 second
abbrev pub time_raw : Fixed → ℤ
time_raw x =
    pos ((x.whole / 10000 * 3600 + x.whole / 100 % 100 * 60 + x.whole % 100) * 10000 + x.part * 10 ^ (4 - x.places))

abbrev pub is_time : Fixed → Bool
is_time x = nat_lt (x.whole / 10000) 24 && nat_lt (x.whole / 100 % 100) 60 && nat_lt (x.whole % 100) 60

abbrev pub time_in : ℕ → Option Fixed → Result (Option ℤ) FieldFault
time_in at None = Err (Form at)
time_in at (Some x) = if is_time x then Ok (Some (time_raw x)) else Err (Range at)

abbrev pub time_of : ℕ → List ℕ → Result (Option ℤ) FieldFault
time_of at [] = Ok None
time_of at (c ∷ cs) = time_in at (fixed_in 6 4 (c ∷ cs))

unfoldable pub time : List (List ℕ) → ℕ → Result (Option ℤ) FieldFault
time fields at = text_says (field_at fields at) at (time_of at)

-- at least and at most so many digits; nothing where that may be
abbrev pub digits_in : ℕ → Bool → ℕ → ℕ → List ℕ → Result ℕ FieldFault
digits_in at may_lack least most [] = if may_lack then Ok 0 else Err (Form at)
digits_in at may_lack least most (c ∷ cs) =
    if nat_le least (length (c ∷ cs)) && nat_le (length (c ∷ cs)) most && list_all is_ascii_digit (c ∷ cs) then Ok (number_of_digits (c ∷ cs)) else Err (Form at)

unfoldable pub digits : List (List ℕ) → ℕ → Bool → ℕ → ℕ → Result ℕ FieldFault
digits fields at may_lack least most = text_says (field_at fields at) at (digits_in at may_lack least most)

abbrev pub day_within : ℤ → Option ℤ
day_within (pos n) = if nat_le n (unsigned_abs date_range.high) then Some (pos n) else None
day_within (negsuc n) = None

abbrev pub day_of : Option Date → Option ℤ
day_of None = None
day_of (Some date) = day_within (epoch_day date)

-- the days from 1970-01-01 on to the date of this year, month and day, where there is one
unfoldable pub day_number : ℕ → ℕ → ℕ → Option ℤ
day_number year month day = day_of (date_of year month day)

abbrev pub day_in : ℕ → Option ℤ → Result (Option ℤ) FieldFault
day_in at None = Err (Range at)
day_in at (Some day) = Ok (Some day)

-- three fields that are all empty
unfoldable pub are_blank : List (List ℕ) → ℕ → Bool
are_blank fields at = is_blank fields at && is_blank fields (at + 1) && is_blank fields (at + 2)

-- day, month and year, all of them or none; a day that there isn't is out of the range of the first
unfoldable pub date : List (List ℕ) → ℕ → Result (Option ℤ) FieldFault
date fields at =
    let none = are_blank fields at in
    given (digits fields at none 1 2)
    (λ d. given (digits fields (at + 1) none 1 2)
    (λ m. given (digits fields (at + 2) none 4 4)
    (λ y. if none then Ok None else day_in at (day_number y m d))))

-- ---- what the calls may rely on

-- no larger than a quantity may be
abbrev pub IsSmall : Option ℤ → Type 0
IsSmall None = Unit {0}
IsSmall (Some raw) = unsigned_abs raw < 2 ^ 62

-- few enough digits to be scaled
abbrev pub IsScalable : Option Decimal → Type 0
IsScalable None = Unit {0}
IsScalable (Some d) = (d.digits < 10 ^ 14) × (d.places ≤ 12)

-- no more digits than there may be
abbrev pub IsFixed : ℕ → ℕ → Fixed → Type 0
IsFixed width most x = (x.whole < 10 ^ width) × (x.part < 10 ^ x.places) × (x.places ≤ most)

abbrev pub AreFixed : ℕ → ℕ → Option Fixed → Type 0
AreFixed width most None = Unit {0}
AreFixed width most (Some x) = IsFixed width most x

-- ---- a satellite fix

-- one digit, of which 9 is no quality; nothing is 0
unfoldable pub quality : List (List ℕ) → ℕ → Result ℕ FieldFault
quality fields at = given (digits fields at true 1 1) (λ n. if nat_le n (unsigned_abs method_range.high) then Ok n else Err (Range at))

-- one to three digits, or nothing
unfoldable pub satellites : List (List ℕ) → ℕ → Result (Option ℤ) FieldFault
satellites fields at =
    given (digits fields at true 1 3) (λ n. if is_blank fields at then Ok None else if nat_le n (unsigned_abs satellites_range.high) then Ok (Some (pos n)) else Err (Range at))
