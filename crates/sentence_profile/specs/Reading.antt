-- The readings of each sentence: for each formatter its fields in order, and the values that they give.
use Rattle.std.specs.Prelude.{ℕ, List, [], ◌∷◌, codes, Option, find, ◌≡◌, ℤ, pos, ◌+ℤ◌, Bool, true, false, not, ◌&&◌, ◌==◌, nat_lt, length, Some, None, is_none, IfSome, Result, Ok, Err, if◌then◌else◌}
use Rattle.std.specs.Str.{bytes_eq}
use Rattle.sentence_profile.specs.declared.formatter.Formatter.{Formatter}
use Rattle.sentence_profile.specs.declared.formatter.Formatter.TheVariants as formatter
use Rattle.sentence_profile.specs.declared.optional.OptionalSentences.{OptionalSentences}
use Rattle.std.specs.Option.{option_to_list}
use Rattle.std.specs.Result.{result_unwrap_or}
use Rattle.sentence_text.specs.Sentence.{SentenceParts}
use Rattle.sentence_text.specs.Fields.{fields_of}
use Rattle.readings.specs.Rows.{IsValid}
use Rattle.readings.specs.declared.reading.Reading.{Reading}
use Rattle.readings.specs.declared.reading.Reading.TheVariants as reading
use Rattle.sentence_profile.specs.declared.fault.FieldFault.{FieldFault}
use Rattle.sentence_profile.specs.declared.fault.FieldFault.TheVariants.{Outside}
use Rattle.sentence_profile.specs.Writing.{only_if, beside}
use Rattle.sentence_profile.specs.Columns.{fault, value, holds, reads, is_blank, is_magnetic, is_letter, text, unkept, unit_letter, status, reference, heading_mode, number, measure, either_unit, sided, wind_speed, coordinate, time, date, quality, satellites}
use Rattle.sentence_profile.specs.Columns as quantity

abbrev pub all : List Formatter
all =
    formatter.Hdt ∷ formatter.Hdg ∷ formatter.Rot ∷ formatter.Rsa ∷ formatter.Vhw ∷ formatter.Dpt ∷ formatter.Dbt ∷ formatter.Vlw
    ∷ formatter.Gll ∷ formatter.Vtg ∷ formatter.Gga ∷ formatter.Zda ∷ formatter.Mwv ∷ formatter.Mwd ∷ formatter.Mtw ∷ formatter.Xte ∷ formatter.Ths
    ∷ formatter.Rmc ∷ []

abbrev pub name_of : Formatter → List ℕ
name_of formatter.Hdt = codes "HDT"
name_of formatter.Hdg = codes "HDG"
name_of formatter.Rot = codes "ROT"
name_of formatter.Rsa = codes "RSA"
name_of formatter.Vhw = codes "VHW"
name_of formatter.Dpt = codes "DPT"
name_of formatter.Dbt = codes "DBT"
name_of formatter.Vlw = codes "VLW"
name_of formatter.Gll = codes "GLL"
name_of formatter.Vtg = codes "VTG"
name_of formatter.Gga = codes "GGA"
name_of formatter.Zda = codes "ZDA"
name_of formatter.Mwv = codes "MWV"
name_of formatter.Mwd = codes "MWD"
name_of formatter.Mtw = codes "MTW"
name_of formatter.Xte = codes "XTE"
name_of formatter.Ths = codes "THS"
name_of formatter.Rmc = codes "RMC"

unfoldable pub formatter_of : List ℕ → Option Formatter
formatter_of text = find (λ f. bytes_eq (name_of f) text) all

-- heading, T
unfoldable pub hdt : List (List ℕ) → Result Reading FieldFault
hdt f =
    let heading = measure f 1 quantity.angle 84 in
    reads (fault heading ∷ []) (reading.HeadingTrue (value heading))

-- heading, mode
unfoldable pub ths : List (List ℕ) → Result Reading FieldFault
ths f =
    let heading = number f 1 quantity.angle in
    let mode = heading_mode f 2 in
    reads (fault heading ∷ fault mode ∷ []) (reading.HeadingTrue (only_if (holds mode) (value heading)))

-- heading, deviation, E or W, variation, E or W
unfoldable pub hdg : List (List ℕ) → Result Reading FieldFault
hdg f =
    let heading = number f 1 quantity.angle in
    let deviation = sided f 2 quantity.deviation 69 87 in
    let variation = sided f 4 quantity.deviation 69 87 in
    reads (fault heading ∷ fault deviation ∷ fault variation ∷ []) (reading.HeadingMagnetic (value heading) (value deviation) (value variation))

-- rate, status
unfoldable pub rot : List (List ℕ) → Result Reading FieldFault
rot f =
    let rate = number f 1 quantity.rate_of_turn in
    let valid = status f 2 (is_none (value rate)) in
    reads (fault rate ∷ fault valid ∷ []) (reading.RateOfTurn (only_if (holds valid) (value rate)))

-- one reading, and a second one where there is one
abbrev pub Found : Type 0
Found = Reading × Option Reading

-- the first rudder where its field isn't empty or both are, and the second where its field isn't
abbrev pub rudders : Bool → Bool → Reading → Reading → Found
rudders no_first no_second first second = if no_second then (first, None) else if no_first then (second, None) else (first, Some second)

-- position, status, and the same of a second rudder
unfoldable pub rsa : List (List ℕ) → Result Found FieldFault
rsa f =
    let first = number f 1 quantity.rudder in
    let first_valid = status f 2 (is_none (value first)) in
    let second = number f 3 quantity.rudder in
    let second_valid = status f 4 (is_none (value second)) in
    reads (fault first ∷ fault first_valid ∷ fault second ∷ fault second_valid ∷ [])
    (rudders (is_none (value first)) (is_none (value second))
    (reading.RudderFirst (only_if (holds first_valid) (value first))) (reading.RudderSecond (only_if (holds second_valid) (value second))))

-- two headings, which aren't kept, and the speed in knots or else in km/h
unfoldable pub vhw : List (List ℕ) → Result Reading FieldFault
vhw f =
    let speed = either_unit f 5 quantity.knots 78 quantity.kilometres_per_hour 75 in
    reads (unkept f 1 ∷ unkept f 2 ∷ unkept f 3 ∷ unkept f 4 ∷ fault speed ∷ []) (reading.WaterSpeed (value speed))

-- the range of a depth's scale may be missing
unfoldable pub depth_range : List (List ℕ) → Result (Option ℤ) FieldFault
depth_range f = if nat_lt (length f) 3 then Ok None else number f 3 quantity.range_metres

-- depth, offset, range
unfoldable pub dpt : List (List ℕ) → Result Reading FieldFault
dpt f =
    let depth = number f 1 quantity.metres in
    let offset = number f 2 quantity.offset_metres in
    let range = depth_range f in
    reads (fault depth ∷ fault offset ∷ fault range ∷ []) (reading.Depth (value depth) (value offset) (value range))

-- depth in feet, in metres and in fathoms, of which the metres are kept
unfoldable pub dbt : List (List ℕ) → Result Reading FieldFault
dbt f =
    let depth = measure f 3 quantity.metres 77 in
    reads (unkept f 1 ∷ unkept f 2 ∷ fault depth ∷ unkept f 5 ∷ unkept f 6 ∷ []) (reading.Depth (value depth) None None)

-- log, N, trip, N
unfoldable pub vlw : List (List ℕ) → Result Reading FieldFault
vlw f =
    let log = measure f 1 quantity.nautical_miles 78 in
    let trip = measure f 3 quantity.nautical_miles 78 in
    reads (fault log ∷ fault trip ∷ []) (reading.DistanceLog (value log) (value trip))

-- latitude, N or S, longitude, E or W, a time that isn't kept, status
unfoldable pub gll : List (List ℕ) → Result Reading FieldFault
gll f =
    let latitude = coordinate f 1 quantity.latitude 4 78 83 in
    let longitude = coordinate f 3 quantity.longitude 5 69 87 in
    let valid = status f 6 (is_none (value latitude) && is_none (value longitude)) in
    reads (fault latitude ∷ fault longitude ∷ unkept f 5 ∷ fault valid ∷ [])
    (reading.Position (only_if (holds valid) (beside (value latitude) (value longitude))) (only_if (holds valid) (beside (value longitude) (value latitude))))

-- the mode, which may be missing, is N
unfoldable pub is_invalid_mode : List (List ℕ) → ℕ → Bool
is_invalid_mode f at = is_letter 78 false (text f at)

-- course in degrees true or else magnetic, speed in knots or else in km/h, mode
unfoldable pub vtg : List (List ℕ) → Result Reading FieldFault
vtg f =
    let course = either_unit f 1 quantity.angle 84 quantity.angle 77 in
    let speed = either_unit f 5 quantity.knots 78 quantity.kilometres_per_hour 75 in
    let valid = not (is_invalid_mode f 9) in
    reads (fault course ∷ fault speed ∷ []) (reading.CourseSpeed (is_magnetic f) (only_if valid (value course)) (only_if valid (value speed)))

-- time, latitude, N or S, longitude, E or W, quality, satellites, dilution, altitude, M, separation, M
unfoldable pub gga : List (List ℕ) → Result Reading FieldFault
gga f =
    let at = time f 1 in
    let latitude = coordinate f 2 quantity.fix_latitude 4 78 83 in
    let longitude = coordinate f 4 quantity.fix_longitude 5 69 87 in
    let method = quality f 6 in
    let seen = satellites f 7 in
    let hdop = number f 8 quantity.dilution in
    let altitude = measure f 9 quantity.altitude_metres 77 in
    let separation = measure f 11 quantity.separation_metres 77 in
    reads (fault at ∷ fault latitude ∷ fault longitude ∷ fault method ∷ fault seen ∷ fault hdop ∷ fault altitude ∷ fault separation ∷ [])
    (reading.Gnss None (value at) (beside (value latitude) (value longitude)) (beside (value longitude) (value latitude)) (value altitude)
    (result_unwrap_or method 0) (value seen) (value hdop) (value separation))

-- time, day, month, year
unfoldable pub zda : List (List ℕ) → Result Reading FieldFault
zda f =
    let at = time f 1 in
    let day = date f 2 in
    reads (fault at ∷ fault day ∷ []) (reading.Time (value day) (value at))

abbrev pub wind : Bool → Option ℤ → Option ℤ → Reading
wind from_true speed angle = if from_true then reading.WindTrue speed angle else reading.WindApparent speed angle

-- angle, R or T, speed, its unit, status
unfoldable pub mwv : List (List ℕ) → Result Reading FieldFault
mwv f =
    let angle = number f 1 quantity.angle in
    let true_wind = reference f 2 in
    let speed = wind_speed f 3 in
    let valid = status f 5 (is_none (value angle) && is_none (value speed)) in
    reads (fault angle ∷ fault true_wind ∷ fault speed ∷ fault valid ∷ [])
    (wind (holds true_wind) (only_if (holds valid) (value speed)) (only_if (holds valid) (value angle)))

-- direction in degrees true or else magnetic, speed in knots or else in m/s
unfoldable pub mwd : List (List ℕ) → Result Reading FieldFault
mwd f =
    let angle = either_unit f 1 quantity.angle 84 quantity.angle 77 in
    let speed = either_unit f 5 quantity.knots 78 quantity.metres_per_second 77 in
    reads (fault angle ∷ fault speed ∷ []) (reading.WindNorth (is_magnetic f) (value speed) (value angle))

-- thousandths of a kelvin
abbrev pub from_freezing : Option ℤ → Option ℤ
from_freezing None = None
from_freezing (Some celsius) = Some (celsius +ℤ pos 273150)

-- temperature, C
unfoldable pub mtw : List (List ℕ) → Result Reading FieldFault
mtw f =
    let celsius = measure f 1 quantity.celsius 67 in
    reads (fault celsius ∷ []) (reading.WaterTemperature (from_freezing (value celsius)))

-- two statuses, distance, L or R, N
unfoldable pub xte : List (List ℕ) → Result Reading FieldFault
xte f =
    let first = status f 1 (is_blank f 3) in
    let second = status f 2 (is_blank f 3) in
    let distance = sided f 3 quantity.track_miles 76 82 in
    reads (fault first ∷ fault second ∷ fault distance ∷ unit_letter f 5 78 (is_none (value distance)) ∷ [])
    (reading.CrossTrack (only_if (holds first && holds second) (value distance)))

-- the status of an RMC may be empty where position, speed and course are
abbrev pub minimum_status : List (List ℕ) → Result Bool FieldFault
minimum_status f = status f 2 (is_blank f 3 && is_blank f 5 && is_blank f 7 && is_blank f 8)

-- a position, and a course and a speed over ground, all of which are kept or none
abbrev pub minimum : Bool → Option ℤ → Option ℤ → Option ℤ → Option ℤ → Found
minimum kept latitude longitude course speed = (
  reading.Position (only_if kept (beside latitude longitude)) (only_if kept (beside longitude latitude)),
  Some (reading.CourseSpeed false (only_if kept course) (only_if kept speed)),
)

-- a time that isn't kept, status, latitude, N or S, longitude, E or W, speed in knots, course in degrees true, a date and a variation that
-- aren't kept, mode
unfoldable pub rmc : List (List ℕ) → Result Found FieldFault
rmc f =
    let valid = minimum_status f in
    let latitude = coordinate f 3 quantity.latitude 4 78 83 in
    let longitude = coordinate f 5 quantity.longitude 5 69 87 in
    let speed = number f 7 quantity.knots in
    let course = number f 8 quantity.angle in
    reads (unkept f 1 ∷ fault valid ∷ fault latitude ∷ fault longitude ∷ fault speed ∷ fault course ∷ unkept f 9 ∷ [])
    (minimum (holds valid && not (is_invalid_mode f 12)) (value latitude) (value longitude) (value course) (value speed))

-- ---- a whole sentence

abbrev pub alone : Result Reading FieldFault → Result Found FieldFault
alone (Ok r) = Ok (r, None)
alone (Err f) = Err f

abbrev pub read_as : Formatter → List (List ℕ) → Result Found FieldFault
read_as formatter.Hdt f = alone (hdt f)
read_as formatter.Hdg f = alone (hdg f)
read_as formatter.Rot f = alone (rot f)
read_as formatter.Rsa f = rsa f
read_as formatter.Vhw f = alone (vhw f)
read_as formatter.Dpt f = alone (dpt f)
read_as formatter.Dbt f = alone (dbt f)
read_as formatter.Vlw f = alone (vlw f)
read_as formatter.Gll f = alone (gll f)
read_as formatter.Vtg f = alone (vtg f)
read_as formatter.Gga f = alone (gga f)
read_as formatter.Zda f = alone (zda f)
read_as formatter.Mwv f = alone (mwv f)
read_as formatter.Mwd f = alone (mwd f)
read_as formatter.Mtw f = alone (mtw f)
read_as formatter.Xte f = alone (xte f)
read_as formatter.Ths f = alone (ths f)
read_as formatter.Rmc f = rmc f

-- those that are read if a configuration says nothing else
abbrev pub usual : OptionalSentences
usual = record { rmc = false; dbt = true }

-- whether the sentences of a formatter are read
abbrev pub is_wanted : OptionalSentences → Formatter → Bool
is_wanted optional formatter.Rmc = optional.rmc
is_wanted optional formatter.Dbt = optional.dbt
is_wanted optional _ = true

-- a formatter that there isn't, or whose sentences aren't read, is outside
abbrev pub read_behind : OptionalSentences → Option Formatter → List (List ℕ) → Result Found FieldFault
read_behind optional None f = Err Outside
read_behind optional (Some formatter) f = if is_wanted optional formatter then read_as formatter f else Err Outside

-- a sentence begins with `$` and has one of these formatters
unfoldable pub read_sentence : OptionalSentences → SentenceParts → Result Found FieldFault
read_sentence optional parts = if parts.start == 36 then read_behind optional (formatter_of parts.formatter) (fields_of parts.body) else Err Outside

abbrev pub listed : Result Found FieldFault → Result (List Reading) FieldFault
listed (Ok found) = Ok (found.0 ∷ option_to_list found.1)
listed (Err f) = Err f

-- the readings of a sentence, or its first fault
abbrev pub read_row : OptionalSentences → SentenceParts → Result (List Reading) FieldFault
read_row optional parts = listed (read_sentence optional parts)

-- the list holds the readings that are read; or the answer is the fault, and the list is empty
abbrev pub IsReadRow : Result (Unit {0}) FieldFault → List Reading → OptionalSentences → SentenceParts → Type 0
IsReadRow (Ok done) readings optional parts = read_row optional parts ≡ Ok readings
IsReadRow (Err f) readings optional parts = (read_row optional parts ≡ Err f) × (readings ≡ [])

-- each of the readings is valid
abbrev pub AreValid : Found → Type 0
AreValid found = IsValid found.0 × IfSome found.1 IsValid
