-- The rows of the profile's messages: which payloads are of a row, and where its values stand in them; and the messages, each with its rows.
use Rattle.std.specs.Prelude.{ℕ, List, [], ◌∷◌, Bool, true, ◌==◌}
use Rattle.std.specs.List.{list_any}
use Rattle.readings.specs.declared.reading.Reading.{Reading}
use Rattle.readings.specs.declared.reading.Reading.TheVariants as reading
use Rattle.readings.specs.Ranges.{angle, deviation, rate_of_turn, rudder, speed, depth, offset, depth_scale, water_distance, latitude, longitude, date, time, fix_latitude, fix_longitude, altitude, satellites, hdop, separation, water_temperature, cross_track}
use Rattle.readings.specs.Rows.{IsValid}
use Rattle.pgn_profile.specs.declared.kinds.Kind.{Kind}
use Rattle.pgn_profile.specs.declared.kinds.Kind.TheVariants.{Single, Fast}
use Rattle.pgn_profile.specs.Part.{AreIn, Part, ValueOf, Values, bits_at, code, filled, flag, multiple, part, signed, unsigned, values_in}

-- a reading, once each value is given
abbrev pub Given : List Part → Type 0
Given [] = Reading
Given (part ∷ parts) = ValueOf part.content → Given parts

abbrev pub given : (parts : List Part) → Given parts → Values parts → Reading
given [] r values = r
given (part ∷ parts) r values = given parts (r values.0) values.1

-- A row: its payloads, its parts in the order of the reading's fields, the reading that they give, which is
-- valid where each value is in its range, and the bytes around the values, none for a row that is only read.
pub record Layout : Type 0 where
  pub selects : List ℕ → Bool
  pub parts : List Part
  pub reading : Given parts
  pub valid : (values : Values parts) → AreIn parts values → IsValid (given parts reading values)
  pub around : List ℕ

abbrev pub layout : (List ℕ → Bool) → (parts : List Part) → (reading : Given parts)
    → ((values : Values parts) → AreIn parts values → IsValid (given parts reading values)) → List ℕ → Layout
layout selects parts reading valid around = record { selects = selects; parts = parts; reading = reading; valid = valid; around = around }

-- what a payload of the row says
abbrev pub reading_by : Layout → List ℕ → Reading
reading_by row payload = given row.parts row.reading (values_in row.parts payload)

-- the payload that says the values
abbrev pub written : (row : Layout) → Values row.parts → List ℕ
written row values = filled row.parts values row.around

-- each payload is of the row
abbrev pub always : List ℕ → Bool
always payload = true

-- the payloads whose bits (byte, lowest bit, number of bits) have one of these values are of the row
abbrev pub where_bits : ℕ → ℕ → ℕ → List ℕ → List ℕ → Bool
where_bits place low count values payload = list_any (λ v. v == bits_at place low count payload) values

abbrev pub heading_true : Layout
heading_true =
    layout (where_bits 7 0 2 (0 ∷ [])) (unsigned 1 2 angle ∷ []) reading.HeadingTrue (λ v is. is) (0xFF ∷ 0 ∷ 0 ∷ 0xFF ∷ 0x7F ∷ 0xFF ∷ 0x7F ∷ 0xFC ∷ [])

abbrev pub heading_magnetic : Layout
heading_magnetic =
    layout (where_bits 7 0 2 (1 ∷ [])) (unsigned 1 2 angle ∷ signed 3 2 deviation ∷ signed 5 2 deviation ∷ []) reading.HeadingMagnetic (λ v is. is)
    (0xFF ∷ 0 ∷ 0 ∷ 0 ∷ 0 ∷ 0 ∷ 0 ∷ 0xFD ∷ [])

abbrev pub turning : Layout
turning = layout always (signed 1 4 rate_of_turn ∷ []) reading.RateOfTurn (λ v is. is) (0xFF ∷ 0 ∷ 0 ∷ 0 ∷ 0 ∷ 0xFF ∷ 0xFF ∷ 0xFF ∷ [])

-- 255 says that there is only one rudder
abbrev pub rudder_first : Layout
rudder_first =
    layout (where_bits 0 0 8 (0 ∷ 255 ∷ [])) (signed 4 2 rudder ∷ []) reading.RudderFirst (λ v is. is) (0 ∷ 0xFF ∷ 0xFF ∷ 0x7F ∷ 0 ∷ 0 ∷ 0xFF ∷ 0xFF ∷ [])

abbrev pub rudder_second : Layout
rudder_second =
    layout (where_bits 0 0 8 (1 ∷ [])) (signed 4 2 rudder ∷ []) reading.RudderSecond (λ v is. is) (1 ∷ 0xFF ∷ 0xFF ∷ 0x7F ∷ 0 ∷ 0 ∷ 0xFF ∷ 0xFF ∷ [])

abbrev pub water_speed : Layout
water_speed = layout always (unsigned 1 2 speed ∷ []) reading.WaterSpeed (λ v is. is) (0xFF ∷ 0 ∷ 0 ∷ 0xFF ∷ 0xFF ∷ 0xFF ∷ 0xFF ∷ 0xFF ∷ [])

abbrev pub water_depth : Layout
water_depth =
    layout always (unsigned 1 4 depth ∷ signed 5 2 offset ∷ unsigned 7 1 depth_scale ∷ []) reading.Depth (λ v is. is)
    (0xFF ∷ 0 ∷ 0 ∷ 0 ∷ 0 ∷ 0 ∷ 0 ∷ 0 ∷ [])

abbrev pub distance_log : Layout
distance_log =
    layout always (unsigned 6 4 water_distance ∷ unsigned 10 4 water_distance ∷ []) reading.DistanceLog (λ v is. is)
    (0xFF ∷ 0xFF ∷ 0xFF ∷ 0xFF ∷ 0xFF ∷ 0xFF ∷ 0 ∷ 0 ∷ 0 ∷ 0 ∷ 0 ∷ 0 ∷ 0 ∷ 0 ∷ [])

abbrev pub position : Layout
position = layout always (signed 0 4 latitude ∷ signed 4 4 longitude ∷ []) reading.Position (λ v is. is) (0 ∷ 0 ∷ 0 ∷ 0 ∷ 0 ∷ 0 ∷ 0 ∷ 0 ∷ [])

abbrev pub course_speed : Layout
course_speed =
    layout (where_bits 1 0 2 (0 ∷ 1 ∷ [])) (part 1 1 (flag 2 0xFC 0xFD) ∷ unsigned 2 2 angle ∷ unsigned 4 2 speed ∷ []) reading.CourseSpeed (λ v is. is)
    (0xFF ∷ 0 ∷ 0 ∷ 0 ∷ 0 ∷ 0 ∷ 0xFF ∷ 0xFF ∷ [])

-- with the method in the four highest bits of byte 31
abbrev pub fix : Layout
fix =
    layout always (unsigned 1 2 date ∷ unsigned 3 4 time ∷ signed 7 8 fix_latitude ∷ signed 15 8 fix_longitude ∷ signed 23 8 altitude ∷ part 31 1 (code 4 4 8)
    ∷ unsigned 33 1 satellites ∷ signed 34 2 hdop ∷ signed 38 4 separation ∷ [])
    reading.Gnss (λ v is. is)
    (0xFF ∷ 0 ∷ 0 ∷ 0 ∷ 0 ∷ 0 ∷ 0 ∷ 0 ∷ 0 ∷ 0 ∷ 0 ∷ 0 ∷ 0 ∷ 0 ∷ 0 ∷ 0 ∷ 0 ∷ 0 ∷ 0 ∷ 0 ∷ 0 ∷ 0 ∷ 0 ∷ 0 ∷ 0 ∷ 0 ∷ 0 ∷ 0 ∷ 0 ∷ 0 ∷ 0 ∷ 0 ∷ 0xFC ∷ 0 ∷ 0 ∷ 0
    ∷ 0xFF ∷ 0x7F ∷ 0 ∷ 0 ∷ 0 ∷ 0 ∷ 0 ∷ [])

abbrev pub system_time : Layout
system_time =
    layout always (unsigned 2 2 date ∷ unsigned 4 4 time ∷ []) reading.Time (λ v is. is) (0xFF ∷ 0xFF ∷ 0 ∷ 0 ∷ 0 ∷ 0 ∷ 0 ∷ 0 ∷ [])

-- only read
abbrev pub time_and_date : Layout
time_and_date = layout always (unsigned 0 2 date ∷ unsigned 2 4 time ∷ []) reading.Time (λ v is. is) []

abbrev pub wind_apparent : Layout
wind_apparent =
    layout (where_bits 5 0 3 (2 ∷ [])) (unsigned 1 2 speed ∷ unsigned 3 2 angle ∷ []) reading.WindApparent (λ v is. is)
    (0xFF ∷ 0 ∷ 0 ∷ 0 ∷ 0 ∷ 0xFA ∷ 0xFF ∷ 0xFF ∷ [])

abbrev pub wind_true : Layout
wind_true =
    layout (where_bits 5 0 3 (3 ∷ 4 ∷ [])) (unsigned 1 2 speed ∷ unsigned 3 2 angle ∷ []) reading.WindTrue (λ v is. is)
    (0xFF ∷ 0 ∷ 0 ∷ 0 ∷ 0 ∷ 0xFB ∷ 0xFF ∷ 0xFF ∷ [])

abbrev pub wind_north : Layout
wind_north =
    layout (where_bits 5 0 3 (0 ∷ 1 ∷ [])) (part 5 1 (flag 3 0xF8 0xF9) ∷ unsigned 1 2 speed ∷ unsigned 3 2 angle ∷ []) reading.WindNorth (λ v is. is)
    (0xFF ∷ 0 ∷ 0 ∷ 0 ∷ 0 ∷ 0 ∷ 0xFF ∷ 0xFF ∷ [])

-- only read, in hundredths of a kelvin
abbrev pub temperature : Layout
temperature =
    layout (where_bits 2 0 8 (0 ∷ [])) (part 3 2 (multiple 10 17315 37315) ∷ []) reading.WaterTemperature (λ v is. is) []

abbrev pub extended_temperature : Layout
extended_temperature =
    layout (where_bits 2 0 8 (0 ∷ [])) (unsigned 3 3 water_temperature ∷ []) reading.WaterTemperature (λ v is. is)
    (0xFF ∷ 0 ∷ 0 ∷ 0 ∷ 0 ∷ 0 ∷ 0xFF ∷ 0xFF ∷ [])

abbrev pub track : Layout
track = layout always (signed 2 4 cross_track ∷ []) reading.CrossTrack (λ v is. is) (0xFF ∷ 0x30 ∷ 0 ∷ 0 ∷ 0 ∷ 0 ∷ 0xFF ∷ 0xFF ∷ [])

-- ---- the messages

-- A message: its PGN, how it comes, the least length of its payload, and its
pub record Message : Type 0 where
  pub pgn : ℕ
  pub kind : Kind
  pub least : ℕ
  pub rows : List Layout

abbrev pub message : ℕ → Kind → ℕ → List Layout → Message
message pgn kind least rows = record { pgn = pgn; kind = kind; least = least; rows = rows }

unfoldable pub messages : List Message
messages =
    message 127250 Single 8 (heading_true ∷ heading_magnetic ∷ [])
    ∷ message 127251 Single 5 (turning ∷ [])
    ∷ message 127245 Single 6 (rudder_first ∷ rudder_second ∷ [])
    ∷ message 128259 Single 3 (water_speed ∷ [])
    ∷ message 128267 Single 5 (water_depth ∷ [])
    ∷ message 128275 Fast 10 (distance_log ∷ [])
    ∷ message 129025 Single 8 (position ∷ [])
    ∷ message 129026 Single 6 (course_speed ∷ [])
    ∷ message 129029 Fast 32 (fix ∷ [])
    ∷ message 126992 Single 8 (system_time ∷ [])
    ∷ message 129033 Single 6 (time_and_date ∷ [])
    ∷ message 130306 Single 6 (wind_apparent ∷ wind_true ∷ wind_north ∷ [])
    ∷ message 130312 Single 5 (temperature ∷ [])
    ∷ message 130316 Single 6 (extended_temperature ∷ [])
    ∷ message 129283 Single 6 (track ∷ [])
    ∷ []

-- ---- the row that a reading is written in

-- a row, a value for each of its parts, and the payload that says them
pub record Filling : Type 0 where
  pub row : Layout
  pub values : Values row.parts
  pub payload : List ℕ

abbrev fill : (row : Layout) → Values row.parts → Filling
fill row values = record { row = row; values = values; payload = written row values }

abbrev pub filling : Reading → Filling
filling (reading.HeadingTrue h) = fill heading_true (h, tt)
filling (reading.HeadingMagnetic h d v) = fill heading_magnetic (h, (d, (v, tt)))
filling (reading.RateOfTurn r) = fill turning (r, tt)
filling (reading.RudderFirst p) = fill rudder_first (p, tt)
filling (reading.RudderSecond p) = fill rudder_second (p, tt)
filling (reading.WaterSpeed s) = fill water_speed (s, tt)
filling (reading.Depth d o r) = fill water_depth (d, (o, (r, tt)))
filling (reading.DistanceLog l t) = fill distance_log (l, (t, tt))
filling (reading.Position la lo) = fill position (la, (lo, tt))
filling (reading.CourseSpeed m c s) = fill course_speed (m, (c, (s, tt)))
filling (reading.Gnss d t la lo al m n h s) = fill fix (d, (t, (la, (lo, (al, (m, (n, (h, (s, tt)))))))))
filling (reading.Time d t) = fill system_time (d, (t, tt))
filling (reading.WindApparent s a) = fill wind_apparent (s, (a, tt))
filling (reading.WindTrue s a) = fill wind_true (s, (a, tt))
filling (reading.WindNorth m s a) = fill wind_north (m, (s, (a, tt)))
filling (reading.WaterTemperature k) = fill extended_temperature (k, tt)
filling (reading.CrossTrack d) = fill track (d, tt)
