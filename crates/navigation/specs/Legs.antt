-- What a plotter says (canboat): its leg, by PGN 129284, and how far it is from the line of the leg, by PGN 129283.
use Rattle.std.specs.Prelude.{ℕ, ℤ, Bool, ◌&&◌, ◌==◌, nat_le, nat_lt, List, length, Option, None, unwrap_or, if◌then◌else◌}
use Rattle.readings.specs.Numbers.{unsigned_at}
use Rattle.readings.specs.Ranges as ranges
use Rattle.readings.specs.Ranges.{Admits, up_to}
use Rattle.readings.specs.declared.range.Range.{Range}
use Rattle.pgn_profile.specs.Part.{bits_at, signed_value, unsigned_value}
use Rattle.pgn_profile.specs.declared.kinds.Kind.{Kind}
use Rattle.pgn_profile.specs.declared.kinds.Kind.TheVariants.{Fast, Outside, Single}
use Rattle.history.specs.Messages.{Message}
use Rattle.navigation.specs.declared.leg.Goal.{Goal}
use Rattle.navigation.specs.declared.leg.Leg.{Leg}

abbrev pub leg_pgn : ℕ
leg_pgn = 129284

abbrev pub error_pgn : ℕ
error_pgn = 129283

-- legs come as fast packets, errors in single frames
abbrev pub kind_of : ℕ → Kind
kind_of pgn = if pgn == leg_pgn then Fast else if pgn == error_pgn then Single else Outside

-- ---- a leg

abbrev pub least_leg : ℕ
least_leg = 34

abbrev pub is_leg : Message → Bool
is_leg d = (d.pgn == leg_pgn) && nat_le least_leg (length d.payload)

abbrev pub is_short_leg : Message → Bool
is_short_leg d = (d.pgn == leg_pgn) && nat_lt (length d.payload) least_leg

-- in 0.01 m
abbrev pub distance : Range
distance = up_to 4294967292

abbrev pub waypoint : Range
waypoint = up_to 99999

-- from which north the bearings are: 0 true, 1 magnetic; by another one they aren't available
abbrev pub reference_in : List ℕ → ℕ
reference_in payload = bits_at 5 0 2 payload

abbrev pub bearing_at : ℕ → List ℕ → Option ℤ
bearing_at place payload = if nat_le (reference_in payload) 1 then unsigned_value place 2 ranges.angle payload else None

abbrev pub leg_in : List ℕ → Leg
leg_in payload = record {
  distance = unsigned_value 1 4 distance payload;
  magnetic = reference_in payload == 1;
  passed = bits_at 5 2 2 payload == 1;
  entered = bits_at 5 4 2 payload == 1;
  track = bearing_at 12 payload;
  bearing = bearing_at 14 payload;
  origin = unsigned_value 16 4 waypoint payload;
  destination = unsigned_value 20 4 waypoint payload;
  latitude = signed_value 24 4 ranges.latitude payload;
  longitude = signed_value 28 4 ranges.longitude payload;
  closing = signed_value 32 2 ranges.offset payload;
}

-- its values are in their ranges
pub record IsLeg (leg : Leg) : Type 0 where
  pub distance_in : Admits distance leg.distance
  pub track : Admits ranges.angle leg.track
  pub bearing : Admits ranges.angle leg.bearing
  pub origin : Admits waypoint leg.origin
  pub destination : Admits waypoint leg.destination
  pub latitude : Admits ranges.latitude leg.latitude
  pub longitude : Admits ranges.longitude leg.longitude
  pub closing : Admits ranges.offset leg.closing

-- the goal of a leg is what its bytes 16 to 31 are: both waypoints' numbers, and the position of the destination
abbrev pub eight_at : ℕ → List ℕ → ℕ
eight_at place payload = unwrap_or (unsigned_at payload place 8) 0

abbrev pub goal_in : List ℕ → Goal
goal_in payload = record { waypoints = eight_at 16 payload; position = eight_at 24 payload }

abbrev pub is_same : Goal → Goal → Bool
is_same a b = (a.waypoints == b.waypoints) && (a.position == b.position)

-- ---- an error: how far the boat is from the line of the leg, in 0.01 m; not where the navigation is terminated

abbrev pub is_error : Message → Bool
is_error d = (d.pgn == error_pgn) && nat_le 6 (length d.payload)

abbrev pub error_in : List ℕ → Option ℤ
error_in payload = if bits_at 1 6 2 payload == 1 then None else signed_value 2 4 ranges.cross_track payload
