-- Each value that is read is in its range.
use Rattle.std.proofs.Common.{◌≡◌, ℕ, ◌+◌, ◌*◌, ◌^◌, ◌<◌, ◌≤◌, ℤ, pos, ◌≤ℤ◌, Bool, true, false, List, [], ◌∷◌, Option, Some, None, Result, arith}
use Rattle.std.specs.Prelude.{◌&&◌, not, unsigned_abs, is_some, IfOk, IfSome, if◌then◌else◌}
use Rattle.std.specs.Result.{result_unwrap_or}
use Rattle.std.proofs.lemmas.Bool.{leb-true}
use Rattle.std.proofs.lemmas.Bool.Decides.{nat_tests}
use Rattle.std.proofs.lemmas.Int.{ints}
use Rattle.readings.specs.declared.range.Range.{Range}
use Rattle.readings.specs.Ranges as ranges
use Rattle.readings.specs.Ranges.{Admits, Holds}
use Rattle.unit_fraction.specs.declared.decimal.Decimal.{Decimal}
use Rattle.unit_fraction.specs.Round.{nearest}
use Rattle.sentence_profile.specs.declared.fixed.Fixed.{Fixed}
use Rattle.sentence_profile.specs.declared.fault.FieldFault.{FieldFault}
use Rattle.sentence_profile.specs.declared.formatter.Formatter.{Formatter}
use Rattle.sentence_profile.specs.declared.formatter.Formatter.TheVariants as formatter
use Rattle.sentence_profile.specs.declared.read_unit.ReadUnit.{ReadUnit}
use Rattle.sentence_profile.specs.Columns as spec
use Rattle.sentence_profile.specs.Columns.{IsFixed, value, range_of}
use Rattle.sentence_profile.specs.Reading as rows
use Rattle.sentence_profile.specs.Writing.{only_if, beside}
use Rattle.sentence_profile.proofs.DigitNumbers.{decimals_below, small}

-- ---- numbers

abbrev SignFits : Bool → Option Decimal → Type 0
SignFits may_be_signed None = Unit {0}
SignFits may_be_signed (Some d) = (d.negative && not may_be_signed) ≡ false

decimal_fits : (fields : List (List ℕ)) (at : ℕ) (may_be_signed : Bool) → SignFits may_be_signed (value (spec.decimal fields at may_be_signed))
unfolding spec.decimal
decimal_fits fields at may_be_signed = grind arith

sign_shown : (negative may_be_signed : Bool) → (negative && not may_be_signed) ≡ false → may_be_signed ≡ false → negative ≡ false
sign_shown negative may_be_signed h e = grind arith

holds_by : (may_be_signed : Bool) (most : ℕ) (x : ℤ) → unsigned_abs x ≤ most → (may_be_signed ≡ false → pos 0 ≤ℤ x)
    → Holds (if may_be_signed then ranges.either_side most else ranges.up_to most) x
holds_by may_be_signed most x within above = grind (arith, ints)

raw_above : (q : ReadUnit) (d : Decimal) → d.negative ≡ false → pos 0 ≤ℤ spec.raw_of q d
unfolding spec.raw_of
raw_above q d e = rw e (let n = nearest (d.digits * q.num) (10 ^ d.places * q.den) in omega (arith, ints))

raw_within : (q : ReadUnit) (d : Decimal) → (d.negative && not q.signed) ≡ false → unsigned_abs (spec.raw_of q d) ≤ q.most → Holds (range_of q) (spec.raw_of q d)
raw_within q d h le = holds_by q.signed q.most (spec.raw_of q d) le (λ s. raw_above q d (sign_shown d.negative q.signed h s))

number_within : (fields : List (List ℕ)) (at : ℕ) (q : ReadUnit) → Admits (range_of q) (value (spec.number fields at q))
unfolding spec.number
number_within fields at q = let sign = decimal_fits fields at q.signed in grind (arith, sign, raw_within)

measure_within : (fields : List (List ℕ)) (at : ℕ) (q : ReadUnit) (letter : ℕ) → Admits (range_of q) (value (spec.measure fields at q letter))
unfolding spec.measure
measure_within fields at q letter = grind (arith, number_within)

either_within : (fields : List (List ℕ)) (at : ℕ) (q : ReadUnit) (letter : ℕ) (other : ReadUnit) (other_letter : ℕ) → range_of q ≡ range_of other
    → Admits (range_of q) (value (spec.either_unit fields at q letter other other_letter))
unfolding spec.either_unit
either_within fields at q letter other other_letter same = grind (arith, measure_within)

toward_within : (most : ℕ) (negative : Bool) (v : Option ℤ) → Admits (ranges.up_to most) v → Admits (ranges.either_side most) (spec.toward negative v)
toward_within most negative v h = grind (arith, ints)

sided_within : (fields : List (List ℕ)) (at : ℕ) (q : ReadUnit) (positive negative : ℕ) → q.signed ≡ false
    → Admits (ranges.either_side q.most) (value (spec.sided fields at q positive negative))
unfolding spec.sided
sided_within fields at q positive negative unsigned = let size = number_within fields at q in grind (arith, size, toward_within)

abbrev IsSpeed : ReadUnit → Type 0
IsSpeed q = (q.most ≡ 65532) × (q.signed ≡ false)

has_speed_unit : (fields : List (List ℕ)) (at : ℕ) (beside_nothing : Bool) → IfOk (spec.speed_unit fields at beside_nothing) IsSpeed
unfolding spec.speed_unit
has_speed_unit fields at beside_nothing = grind arith

wind_within : (fields : List (List ℕ)) (at : ℕ) → Admits ranges.speed (value (spec.wind_speed fields at))
unfolding spec.wind_speed
wind_within fields at =
    let sign = decimal_fits fields at false in
    let alone = has_speed_unit fields (at + 1) true in
    let beside_number = has_speed_unit fields (at + 1) false in
    grind (arith, ints, sign, alone, beside_number, raw_above)

-- ---- positions

minutes_within : (at : ℕ) (q : ReadUnit) (width : ℕ) (bytes : List ℕ) → Admits (range_of q) (value (spec.degrees_of at q width bytes))
minutes_within at q width bytes = grind (arith, raw_within)

coordinate_within : (fields : List (List ℕ)) (at : ℕ) (q : ReadUnit) (width positive negative : ℕ) → q.signed ≡ false
    → Admits (ranges.either_side q.most) (value (spec.coordinate fields at q width positive negative))
unfolding spec.coordinate spec.degrees
coordinate_within fields at q width positive negative unsigned = grind (arith, minutes_within, toward_within)

-- ---- time, date and fix

-- no more digits behind the point than there may be
abbrev HasPart : ℕ → Fixed → Type 0
HasPart most x = (x.part < 10 ^ x.places) × (x.places ≤ most)

part_of : (whole most : ℕ) (rest : List ℕ) → IfSome (spec.with_part whole (spec.part_behind most rest)) (HasPart most)
part_of whole most rest = grind (arith, nat_tests, small)

fixed_part : (width most : ℕ) (bytes : List ℕ) → IfSome (spec.fixed_in width most bytes) (HasPart most)
unfolding spec.fixed_in
fixed_part width most bytes = grind (arith, part_of)

time_bound : (h m s part : ℕ) → h < 24 → m < 60 → s < 60 → part < 10000 → Holds ranges.time (pos ((h * 3600 + m * 60 + s) * 10000 + part))
time_bound h m s part hours minutes seconds few = (omega (arith, ints), omega (arith, ints))

time_raw_within : (x : Fixed) → HasPart 4 x → spec.is_time x ≡ true → Holds ranges.time (spec.time_raw x)
time_raw_within x h e =
    let few = decimals_below x.places x.part h.1 h.0 in
    grind (arith, ints, nat_tests, time_bound)

time_in_within : (at : ℕ) (x : Option Fixed) → IfSome x (HasPart 4) → Admits ranges.time (value (spec.time_in at x))
time_in_within at x h = grind (arith, time_raw_within)

time_of_within : (at : ℕ) (bytes : List ℕ) → Admits ranges.time (value (spec.time_of at bytes))
time_of_within at [] = tt
time_of_within at (c ∷ cs) = time_in_within at (spec.fixed_in 6 4 (c ∷ cs)) (fixed_part 6 4 (c ∷ cs))

time_within : (fields : List (List ℕ)) (at : ℕ) → Admits ranges.time (value (spec.time fields at))
unfolding spec.time
time_within fields at = grind (arith, time_of_within)

day_within_range : (day : ℤ) → Admits ranges.date (spec.day_within day)
day_within_range day = grind (arith, ints, nat_tests)

day_number_within : (year month day : ℕ) → Admits ranges.date (spec.day_number year month day)
unfolding spec.day_number
day_number_within year month day = grind (arith, day_within_range)

date_within : (fields : List (List ℕ)) (at : ℕ) → Admits ranges.date (value (spec.date fields at))
unfolding spec.date
date_within fields at = grind (arith, day_number_within)

satellites_within : (fields : List (List ℕ)) (at : ℕ) → Admits ranges.satellites (value (spec.satellites fields at))
unfolding spec.satellites
satellites_within fields at = grind (arith, ints, leb-true)

abbrev IsMethod : ℕ → Type 0
IsMethod n = Holds ranges.method (pos n)

quality_within : (fields : List (List ℕ)) (at : ℕ) → IsMethod (result_unwrap_or (spec.quality fields at) 0)
unfolding spec.quality
quality_within fields at = grind (arith, ints, leb-true)

-- ---- rows

only_within : (range : Range) (meant : Bool) (v : Option ℤ) → Admits range v → Admits range (only_if meant v)
only_within range meant v h = grind arith

pub beside_within : (range : Range) (v other : Option ℤ) → Admits range v → Admits range (beside v other)
beside_within range v other h = only_within range (is_some other) v h

kelvin_within : (v : Option ℤ) → Admits (ranges.either_side 100000) v → Admits ranges.water_temperature (rows.from_freezing v)
kelvin_within v h = grind (arith, ints)

valid_as : (formatter : Formatter) (f : List (List ℕ)) → IfOk (rows.read_as formatter f) rows.AreValid
unfolding rows.hdt rows.ths rows.hdg rows.rot rows.rsa rows.vhw rows.dpt rows.depth_range rows.dbt rows.vlw rows.gll rows.vtg rows.gga rows.zda rows.mwv rows.mwd rows.mtw rows.xte rows.rmc
valid_as formatter.Hdt f = grind (arith, measure_within)
valid_as formatter.Ths f = grind (arith, only_within, number_within)
valid_as formatter.Hdg f = grind (arith, number_within, sided_within)
valid_as formatter.Rot f = grind (arith, only_within, number_within)
valid_as formatter.Rsa f = grind (arith, only_within, number_within)
valid_as formatter.Vhw f = grind (arith, either_within)
valid_as formatter.Dpt f = grind (arith, number_within)
valid_as formatter.Dbt f = grind (arith, measure_within)
valid_as formatter.Vlw f = grind (arith, measure_within)
valid_as formatter.Gll f = grind (arith, only_within, beside_within, coordinate_within)
valid_as formatter.Vtg f = grind (arith, only_within, either_within)
valid_as formatter.Gga f =
    grind (arith, time_within, beside_within, coordinate_within, quality_within, satellites_within, number_within, measure_within)
valid_as formatter.Zda f = grind (arith, date_within, time_within)
valid_as formatter.Mwv f = grind (arith, only_within, wind_within, number_within)
valid_as formatter.Mwd f = grind (arith, either_within)
valid_as formatter.Mtw f = grind (arith, kelvin_within, measure_within)
valid_as formatter.Xte f = grind (arith, only_within, sided_within)
valid_as formatter.Rmc f = grind (arith, only_within, beside_within, coordinate_within, number_within)

pub valid_result : (formatter : Formatter) (f : List (List ℕ)) (result : Result rows.Found FieldFault) → result ≡ rows.read_as formatter f → IfOk result rows.AreValid
valid_result formatter f result e = rw e (valid_as formatter f)
