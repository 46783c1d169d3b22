-- The fields of a leg can be printed, and RMB has room.
use Rattle.std.proofs.Common.{◌≤◌, ℕ, ℤ, pos, negsuc, Bool, true, false, ◌||◌, IsTrue, refl, arith}
use Rattle.std.proofs.Math.Nat.{min-le_right}
use Rattle.std.proofs.lemmas.Int.{ints}
use Rattle.std.specs.Prelude.{Option, Some, None, unsigned_abs}
use Rattle.std.specs.List.{AllByRecursion}
use Rattle.readings.specs.Ranges as ranges
use Rattle.readings.specs.Ranges.{Admits}
use Rattle.sentence_text.specs.Byte.{is_field_byte}
use Rattle.sentence_fields.specs.Field.{IsCounted, IsPrintable, body_width, count, letter_where, minutes, track_miles, width_of}
use Rattle.sentence_profile.specs.Writing.{beside}
use Rattle.navigation.specs.declared.leg.Leg.{Leg}
use Rattle.navigation.specs.Legs.{IsLeg}
use Rattle.navigation.specs.Sentences.{apb, closing_knots, digits_in, distance_field, error_field, is_steered, is_whole, rmb, tenth_miles, waypoint_field}

latitude_counted : (v : Option ℤ) → Admits ranges.latitude v → IsCounted minutes v
latitude_counted None within = tt
latitude_counted (Some (pos n)) within = omega (arith, ints, within.0, within.1)
latitude_counted (Some (negsuc n)) within = omega (arith, ints, within.0, within.1)

longitude_counted : (v : Option ℤ) → Admits ranges.longitude v → IsCounted minutes v
longitude_counted None within = tt
longitude_counted (Some (pos n)) within = omega (arith, ints, within.0, within.1)
longitude_counted (Some (negsuc n)) within = omega (arith, ints, within.0, within.1)

beside_counted : (v other : Option ℤ) → IsCounted minutes v → IsCounted minutes (beside v other)
beside_counted v None counted = tt
beside_counted v (Some other) counted = counted

closing_counted : (v : Option ℤ) → Admits ranges.offset v → IsCounted closing_knots v
closing_counted None within = tt
closing_counted (Some (pos n)) within = omega (arith, ints, within.0, within.1)
closing_counted (Some (negsuc n)) within = omega (arith, ints, within.0, within.1)

-- ---- fields

pub letter_printable : (there : Bool) (first second : ℕ) → IsTrue (is_field_byte first) → IsTrue (is_field_byte second) → IsTrue (is_field_byte (letter_where there first second))
letter_printable true first second is other = is
letter_printable false first second is other = other

pub error_printable : (error : Option ℤ) → IsPrintable (error_field error)
error_printable None = (refl, tt)
error_printable (Some raw) = (refl, min-le_right (unsigned_abs (count track_miles raw)) 9990)

distance_printable : (raw : Option ℤ) → IsPrintable (distance_field raw)
distance_printable None = (refl, tt)
distance_printable (Some raw) = (refl, min-le_right (unsigned_abs (count tenth_miles raw)) 9999)

waypoint_printable : (number : Option ℤ) → IsPrintable (waypoint_field number)
waypoint_printable None = tt
waypoint_printable (Some number) = tt

few_digits : (n : ℕ) → digits_in n ≤ 5
few_digits n = grind arith

waypoint_short : (number : Option ℤ) → width_of (waypoint_field number) ≤ 5
waypoint_short None = omega arith
waypoint_short (Some number) = few_digits (unsigned_abs number)

-- ---- sentences

pub rmb_printable : (leg : Leg) (error : Option ℤ) → IsLeg leg → AllByRecursion IsPrintable (rmb leg error)
rmb_printable leg error is = (
  letter_printable (is_whole leg error) 65 86 refl refl,
  (
    error_printable error,
    (
      (refl, refl, refl),
      (
        waypoint_printable leg.origin,
        (
          waypoint_printable leg.destination,
          (
            (refl, beside_counted leg.latitude leg.longitude (latitude_counted leg.latitude is.latitude)),
            (
              (refl, refl, refl),
              (
                (refl, beside_counted leg.longitude leg.latitude (longitude_counted leg.longitude is.longitude)),
                (
                  (refl, refl, refl),
                  (
                    distance_printable leg.distance,
                    (
                      tt,
                      (
                        (refl, closing_counted leg.closing is.closing),
                        (letter_printable (leg.entered || leg.passed) 65 86 refl refl, (letter_printable (is_whole leg error) 65 78 refl refl, tt)),
                      ),
                    ),
                  ),
                ),
              ),
            ),
          ),
        ),
      ),
    ),
  ),
)

pub rmb_short : (leg : Leg) (error : Option ℤ) → body_width (rmb leg error) ≤ 71
rmb_short leg error = omega (arith, waypoint_short leg.origin, waypoint_short leg.destination)

pub apb_printable : (leg : Leg) (error : Option ℤ) → AllByRecursion IsPrintable (apb leg error)
apb_printable leg error =
    let north = letter_printable leg.magnetic 77 84 refl refl in (
      letter_printable (is_steered leg error) 65 86 refl refl,
      (
        letter_printable (is_steered leg error) 65 86 refl refl,
        (
          error_printable error,
          (
            (refl, refl, refl),
            (
              refl,
              (
                letter_printable leg.entered 65 86 refl refl,
                (
                  letter_printable leg.passed 65 86 refl refl,
                  (
                    tt,
                    (
                      north,
                      (
                        waypoint_printable leg.destination,
                        (tt, (north, (tt, (north, (letter_printable (is_steered leg error) 65 78 refl refl, tt))))),
                      ),
                    ),
                  ),
                ),
              ),
            ),
          ),
        ),
      ),
    )

pub apb_short : (leg : Leg) (error : Option ℤ) → body_width (apb leg error) ≤ 71
apb_short leg error = omega (arith, waypoint_short leg.destination)
