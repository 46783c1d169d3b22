-- The rows: what each is beside its values; and what a reading says: its row, its principal values, and each value with its range.
use Rattle.std.specs.Prelude.{ℕ, ℤ, pos, Bool, ◌&&◌, nat_le, List, [], ◌∷◌, Option, Some, None, codes}
use Rattle.std.specs.List.{AllByRecursion, list_all}
use Rattle.readings.specs.declared.range.Range.{Range}
use Rattle.readings.specs.declared.reading.Reading.{Reading}
use Rattle.readings.specs.declared.reading.Reading.TheVariants as reading
use Rattle.readings.specs.declared.rows.Row.{Row}
use Rattle.readings.specs.declared.rows.Row.TheVariants as row
use Rattle.readings.specs.Ranges.{IsWithin, angle, deviation, rate_of_turn, rudder, speed, depth, offset, depth_scale, water_distance, latitude, longitude, date, time, fix_latitude, fix_longitude, altitude, method, satellites, hdop, separation, water_temperature, cross_track}

-- A row's place among the rows, its name in a configuration, its talker where no other is configured (IEC 61162-1), the parameter group
-- that it is sent and taken in by, a second one that it is taken in by, and the priority that it is sent with.
pub record About : Type 0 where
  pub number : ℕ
  pub name : List ℕ
  pub talker : List ℕ
  pub pgn : ℕ
  pub also : Option ℕ
  pub priority : ℕ

abbrev about : ℕ → List ℕ → List ℕ → ℕ → Option ℕ → ℕ → About
about number name talker pgn also priority = record { number = number; name = name; talker = talker; pgn = pgn; also = also; priority = priority }

-- a gyro, a compass, a log, a sounder, a satellite receiver and so on
abbrev pub about_of : Row → About
about_of row.HeadingTrue = about 0 (codes "heading_true") (codes "HE") 127250 None 2
about_of row.HeadingMagnetic = about 1 (codes "heading_magnetic") (codes "HC") 127250 None 2
about_of row.RateOfTurn = about 2 (codes "rate_of_turn") (codes "TI") 127251 None 2
about_of row.RudderFirst = about 3 (codes "rudder_first") (codes "II") 127245 None 2
about_of row.RudderSecond = about 4 (codes "rudder_second") (codes "II") 127245 None 2
about_of row.WaterSpeed = about 5 (codes "water_speed") (codes "VW") 128259 None 2
about_of row.Depth = about 6 (codes "depth") (codes "SD") 128267 None 3
about_of row.DistanceLog = about 7 (codes "distance_log") (codes "VW") 128275 None 6
about_of row.Position = about 8 (codes "position") (codes "GP") 129025 None 2
about_of row.CourseSpeed = about 9 (codes "course_speed") (codes "GP") 129026 None 2
about_of row.Gnss = about 10 (codes "gnss") (codes "GP") 129029 None 3
about_of row.Time = about 11 (codes "time") (codes "GP") 126992 (Some 129033) 3
about_of row.WindApparent = about 12 (codes "wind_apparent") (codes "WI") 130306 None 2
about_of row.WindTrue = about 13 (codes "wind_true") (codes "WI") 130306 None 2
about_of row.WindNorth = about 14 (codes "wind_north") (codes "WI") 130306 None 2
about_of row.WaterTemperature = about 15 (codes "water_temperature") (codes "YX") 130316 (Some 130312) 5
about_of row.CrossTrack = about 16 (codes "cross_track") (codes "II") 129283 None 3

-- the row's place among the rows
abbrev pub row_number : Row → ℕ
row_number row = (about_of row).number

-- all rows, in their order
abbrev pub every_row : List Row
every_row =
    row.HeadingTrue ∷ row.HeadingMagnetic ∷ row.RateOfTurn ∷ row.RudderFirst ∷ row.RudderSecond ∷ row.WaterSpeed ∷ row.Depth ∷ row.DistanceLog
    ∷ row.Position ∷ row.CourseSpeed ∷ row.Gnss ∷ row.Time ∷ row.WindApparent ∷ row.WindTrue ∷ row.WindNorth ∷ row.WaterTemperature ∷ row.CrossTrack ∷ []

-- the same under a name into which proofs don't look
unfoldable pub rows : List Row
rows = every_row

-- how many they are
abbrev pub rows_count : ℕ
rows_count = 17

-- the letters of a talker
abbrev pub are_capitals : List ℕ → Bool
are_capitals text = list_all (λ c. nat_le 65 c && nat_le c 90) text

-- ---- what a reading says

abbrev pub row_of : Reading → Row
row_of (reading.HeadingTrue h) = row.HeadingTrue
row_of (reading.HeadingMagnetic h d v) = row.HeadingMagnetic
row_of (reading.RateOfTurn r) = row.RateOfTurn
row_of (reading.RudderFirst p) = row.RudderFirst
row_of (reading.RudderSecond p) = row.RudderSecond
row_of (reading.WaterSpeed s) = row.WaterSpeed
row_of (reading.Depth d o r) = row.Depth
row_of (reading.DistanceLog l t) = row.DistanceLog
row_of (reading.Position la lo) = row.Position
row_of (reading.CourseSpeed m c s) = row.CourseSpeed
row_of (reading.Gnss d t la lo al m n h s) = row.Gnss
row_of (reading.Time d t) = row.Time
row_of (reading.WindApparent s a) = row.WindApparent
row_of (reading.WindTrue s a) = row.WindTrue
row_of (reading.WindNorth m s a) = row.WindNorth
row_of (reading.WaterTemperature k) = row.WaterTemperature
row_of (reading.CrossTrack d) = row.CrossTrack

-- the values without which a reading says nothing of its row
abbrev pub principal : Reading → List (Option ℤ)
principal (reading.HeadingTrue h) = h ∷ []
principal (reading.HeadingMagnetic h d v) = h ∷ []
principal (reading.RateOfTurn r) = r ∷ []
principal (reading.RudderFirst p) = p ∷ []
principal (reading.RudderSecond p) = p ∷ []
principal (reading.WaterSpeed s) = s ∷ []
principal (reading.Depth d o r) = d ∷ []
principal (reading.DistanceLog l t) = l ∷ []
principal (reading.Position la lo) = la ∷ lo ∷ []
principal (reading.CourseSpeed m c s) = s ∷ []
principal (reading.Gnss d t la lo al m n h s) = la ∷ lo ∷ []
principal (reading.Time d t) = d ∷ t ∷ []
principal (reading.WindApparent s a) = s ∷ a ∷ []
principal (reading.WindTrue s a) = s ∷ a ∷ []
principal (reading.WindNorth m s a) = s ∷ a ∷ []
principal (reading.WaterTemperature k) = k ∷ []
principal (reading.CrossTrack d) = d ∷ []

-- a reading's values in the order of its fields, each with its range
abbrev pub limits : Reading → List (Range × Option ℤ)
limits (reading.HeadingTrue h) = (angle, h) ∷ []
limits (reading.HeadingMagnetic h d v) = (angle, h) ∷ (deviation, d) ∷ (deviation, v) ∷ []
limits (reading.RateOfTurn r) = (rate_of_turn, r) ∷ []
limits (reading.RudderFirst p) = (rudder, p) ∷ []
limits (reading.RudderSecond p) = (rudder, p) ∷ []
limits (reading.WaterSpeed s) = (speed, s) ∷ []
limits (reading.Depth d o r) = (depth, d) ∷ (offset, o) ∷ (depth_scale, r) ∷ []
limits (reading.DistanceLog l t) = (water_distance, l) ∷ (water_distance, t) ∷ []
limits (reading.Position la lo) = (latitude, la) ∷ (longitude, lo) ∷ []
limits (reading.CourseSpeed m c s) = (angle, c) ∷ (speed, s) ∷ []
limits (reading.Gnss d t la lo al m n h s) =
    (date, d) ∷ (time, t) ∷ (fix_latitude, la) ∷ (fix_longitude, lo) ∷ (altitude, al) ∷ (method, Some (pos m))
    ∷ (satellites, n) ∷ (hdop, h) ∷ (separation, s) ∷ []
limits (reading.Time d t) = (date, d) ∷ (time, t) ∷ []
limits (reading.WindApparent s a) = (speed, s) ∷ (angle, a) ∷ []
limits (reading.WindTrue s a) = (speed, s) ∷ (angle, a) ∷ []
limits (reading.WindNorth m s a) = (speed, s) ∷ (angle, a) ∷ []
limits (reading.WaterTemperature k) = (water_temperature, k) ∷ []
limits (reading.CrossTrack d) = (cross_track, d) ∷ []

-- each value of the reading that is there is in its range
abbrev pub IsValid : Reading → Type 0
IsValid r = AllByRecursion IsWithin (limits r)
