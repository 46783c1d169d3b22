-- The ranges of the rows' values.
use Rattle.std.specs.Prelude.{ℕ, ℤ, pos, ◌-ℤ◌, ◌≤ℤ◌, Option, Some, None}
use Rattle.readings.specs.declared.range.Range.{Range}

abbrev pub from_to : ℤ → ℤ → Range
from_to low high = record { low = low; high = high }

abbrev pub up_to : ℕ → Range
up_to high = from_to (pos 0) (pos high)

abbrev pub either_side : ℕ → Range
either_side high = from_to (pos 0 -ℤ pos high) (pos high)

-- the greatest unsigned number of two bytes that says something: the three above it are reserved, an error, and not available
abbrev pub greatest_u16 : ℕ
greatest_u16 = 65532

abbrev pub angle : Range
angle = up_to 62832

abbrev pub deviation : Range
deviation = either_side 31416

abbrev pub rate_of_turn : Range
rate_of_turn = either_side 930842268

abbrev pub rudder : Range
rudder = either_side 15708

abbrev pub speed : Range
speed = up_to greatest_u16

abbrev pub depth : Range
depth = up_to 1200000

abbrev pub offset : Range
offset = either_side 32764

abbrev pub depth_scale : Range
depth_scale = up_to 252

abbrev pub water_distance : Range
water_distance = up_to 3704000000

abbrev pub latitude : Range
latitude = either_side 900000000

abbrev pub longitude : Range
longitude = either_side 1800000000

abbrev pub date : Range
date = up_to greatest_u16

abbrev pub time : Range
time = up_to 863999999

abbrev pub fix_latitude : Range
fix_latitude = either_side 900000000000000000

abbrev pub fix_longitude : Range
fix_longitude = either_side 1800000000000000000

abbrev pub altitude : Range
altitude = either_side 9999900000

abbrev pub method : Range
method = up_to 8

abbrev pub satellites : Range
satellites = up_to 252

abbrev pub hdop : Range
hdop = up_to 9999

abbrev pub separation : Range
separation = either_side 99990

abbrev pub water_temperature : Range
water_temperature = from_to (pos 173150) (pos 373150)

abbrev pub cross_track : Range
cross_track = either_side 18520000

-- the value is in the range
abbrev pub Holds : Range → ℤ → Type 0
Holds range value = (range.low ≤ℤ value) × (value ≤ℤ range.high)

-- the value is in the range, if there is one
abbrev pub Admits : Range → Option ℤ → Type 0
Admits range None = Unit {0}
Admits range (Some value) = Holds range value

abbrev pub IsWithin : Range × Option ℤ → Type 0
IsWithin limit = Admits limit.0 limit.1
