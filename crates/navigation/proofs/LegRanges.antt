-- The values of a leg are in their ranges.
use Rattle.std.proofs.Common.{ℕ, ℤ, pos, Bool, true, false, List, arith}
use Rattle.std.proofs.lemmas.Int.{ints}
use Rattle.std.specs.Prelude.{nat_le, ◌==◌, Option, Some, None, if◌then◌else◌}
use Rattle.readings.specs.Numbers.{signed_at, unsigned_at}
use Rattle.readings.specs.Ranges as ranges
use Rattle.readings.specs.Ranges.{Admits}
use Rattle.readings.specs.declared.range.Range.{Range}
use Rattle.pgn_profile.specs.Part.{available, bits_at, largest_signed, largest_unsigned, signed_from, signed_value, unsigned_from, unsigned_value}
use Rattle.navigation.specs.Legs.{IsLeg, bearing_at, distance, error_in, leg_in, reference_in, waypoint}

available_in : (largest : ℤ) (range : Range) (v : ℤ) → Admits range (available largest range v)
available_in largest range v = grind (arith, ints)

unsigned_in : (width : ℕ) (range : Range) (o : Option ℕ) → Admits range (unsigned_from width range o)
unsigned_in width range None = tt
unsigned_in width range (Some v) = available_in (largest_unsigned width) range (pos v)

signed_in : (width : ℕ) (range : Range) (o : Option ℤ) → Admits range (signed_from width range o)
signed_in width range None = tt
signed_in width range (Some v) = available_in (largest_signed width) range v

bearing_in : (place : ℕ) (payload : List ℕ) → Admits ranges.angle (bearing_at place payload)
bearing_in place payload = by (nat_le (reference_in payload) 1)
  where
    by : (b : Bool) → Admits ranges.angle (if b then unsigned_value place 2 ranges.angle payload else None)
    by true = unsigned_in 2 ranges.angle (unsigned_at payload place 2)
    by false = tt

pub in_ranges : (payload : List ℕ) → IsLeg (leg_in payload)
in_ranges payload = record {
  distance_in = unsigned_in 4 distance (unsigned_at payload 1 4);
  track = bearing_in 12 payload;
  bearing = bearing_in 14 payload;
  origin = unsigned_in 4 waypoint (unsigned_at payload 16 4);
  destination = unsigned_in 4 waypoint (unsigned_at payload 20 4);
  latitude = signed_in 4 ranges.latitude (signed_at payload 24 4);
  longitude = signed_in 4 ranges.longitude (signed_at payload 28 4);
  closing = signed_in 2 ranges.offset (signed_at payload 32 2);
}

pub error_ranged : (payload : List ℕ) → Admits ranges.cross_track (error_in payload)
error_ranged payload = by (bits_at 1 6 2 payload == 1)
  where
    by : (b : Bool) → Admits ranges.cross_track (if b then None else signed_value 2 4 ranges.cross_track payload)
    by true = tt
    by false = signed_in 4 ranges.cross_track (signed_at payload 2 4)
