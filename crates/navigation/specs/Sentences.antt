-- The sentences of a leg (IEC 61162-1): RMB, APB and XTE.
use Rattle.std.specs.Prelude.{ℕ, min, nat_lt, unsigned_abs, ℤ, pos, Bool, ◌&&◌, ◌||◌, not, List, [], ◌∷◌, ◌++◌, codes, Option, Some, None, is_some, if◌then◌else◌}
use Rattle.readings.specs.Ranges as ranges
use Rattle.sentence_fields.specs.Field.{by, count, letter_where, minutes, sentence_by, track_miles}
use Rattle.sentence_fields.specs.declared.field.Field.{Field}
use Rattle.sentence_fields.specs.declared.field.Field.TheVariants.{Angle, Decimal, Degrees, Digits, Letter, Magnitude, Side}
use Rattle.sentence_fields.specs.declared.written_unit.WrittenUnit.{WrittenUnit}
use Rattle.sentence_profile.specs.Writing.{beside, xte}
use Rattle.counted_lines.specs.CountedLines.{only_where}
use Rattle.navigation.specs.Legs.{distance}
use Rattle.navigation.specs.declared.leg.Leg.{Leg}

-- ---- fields

-- the last decimals of a unit, no more than so many of them
abbrev pub at_most : ℕ → WrittenUnit → Option ℤ → Option ℤ
at_most most unit None = None
at_most most unit (Some raw) = Some (pos (min (unsigned_abs (count unit raw)) most))

-- a number of which so many decimals are given, as it is
abbrev pub as_it_is : ℕ → ℕ → ℕ → WrittenUnit
as_it_is places most digits = record { num = 1; den = 1; places = places; largest = most; digits = digits }

-- from 0.01 m
abbrev pub tenth_miles : WrittenUnit
tenth_miles = by 1 18520 1 distance 6

-- from 0.01 m/s, to either side
abbrev pub closing_knots : WrittenUnit
closing_knots = by 900 463 2 ranges.offset 5

abbrev pub error_field : Option ℤ → Field
error_field error = Magnitude (at_most 9990 track_miles error) (as_it_is 3 9990 4)

-- the side of the line to which to steer
abbrev pub side_field : Option ℤ → Field
side_field error = Side error track_miles 76 82

abbrev pub distance_field : Option ℤ → Field
distance_field raw = Magnitude (at_most 9999 tenth_miles raw) (as_it_is 1 9999 4)

-- how many digits a number of at most five has
abbrev pub digits_in : ℕ → ℕ
digits_in n = if nat_lt n 10 then 1 else if nat_lt n 100 then 2 else if nat_lt n 1000 then 3 else if nat_lt n 10000 then 4 else 5

abbrev pub waypoint_field : Option ℤ → Field
waypoint_field None = Digits None 0
waypoint_field (Some number) = Digits (Some (unsigned_abs number)) (digits_in (unsigned_abs number))

abbrev pub north_letter : Leg → ℕ
north_letter leg = letter_where leg.magnetic 77 84

-- ---- what has to be there

abbrev pub is_whole : Leg → Option ℤ → Bool
is_whole leg error = is_some error && (is_some leg.distance && (is_some leg.bearing && (is_some leg.latitude && is_some leg.longitude)))

abbrev pub is_steered : Leg → Option ℤ → Bool
is_steered leg error = is_some error && (is_some leg.track && is_some leg.bearing)

-- ---- sentences

abbrev pub rmb : Leg → Option ℤ → List Field
rmb leg error =
    Letter (letter_where (is_whole leg error) 65 86) ∷ error_field error ∷ side_field error ∷ waypoint_field leg.origin ∷ waypoint_field leg.destination
    ∷ Degrees (beside leg.latitude leg.longitude) minutes 2 ∷ Side (beside leg.latitude leg.longitude) minutes 78 83
    ∷ Degrees (beside leg.longitude leg.latitude) minutes 3 ∷ Side (beside leg.longitude leg.latitude) minutes 69 87
    ∷ distance_field leg.distance ∷ Angle leg.bearing ∷ Decimal leg.closing closing_knots
    ∷ Letter (letter_where (leg.entered || leg.passed) 65 86) ∷ Letter (letter_where (is_whole leg error) 65 78) ∷ []

-- the heading to steer is the bearing of the destination: the message has no other
abbrev pub apb : Leg → Option ℤ → List Field
apb leg error =
    Letter (letter_where (is_steered leg error) 65 86) ∷ Letter (letter_where (is_steered leg error) 65 86) ∷ error_field error ∷ side_field error ∷ Letter 78
    ∷ Letter (letter_where leg.entered 65 86) ∷ Letter (letter_where leg.passed 65 86) ∷ Angle leg.track ∷ Letter (north_letter leg)
    ∷ waypoint_field leg.destination ∷ Angle leg.bearing ∷ Letter (north_letter leg) ∷ Angle leg.bearing ∷ Letter (north_letter leg)
    ∷ Letter (letter_where (is_steered leg error) 65 78) ∷ []

abbrev pub rmb_text : List ℕ → Leg → Option ℤ → List ℕ
rmb_text talker leg error = sentence_by talker (codes "RMB") (rmb leg error)

abbrev pub apb_text : List ℕ → Leg → Option ℤ → List ℕ
apb_text talker leg error = sentence_by talker (codes "APB") (apb leg error)

abbrev pub xte_text : List ℕ → Option ℤ → List ℕ
xte_text talker error = sentence_by talker (codes "XTE") (xte error)

-- RMB has no letter for a magnetic bearing, so it is said of true ones alone
abbrev pub leg_texts : List ℕ → Leg → Option ℤ → List (List ℕ)
leg_texts talker leg error = only_where (not leg.magnetic) (rmb_text talker leg error) ++ (apb_text talker leg error ∷ xte_text talker error ∷ [])
