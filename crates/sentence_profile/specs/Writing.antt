-- The sentences that each reading is said in.
use Rattle.std.specs.Prelude.{◌≡◌, ℕ, ◌+◌, ℤ, pos, ◌-ℤ◌, unsigned_abs, Bool, not, ◌||◌, List, [], ◌∷◌, map, codes, Option, Some, None, is_some, if◌then◌else◌}
use Rattle.jiff_core.specs.Date.{epoch_day}
use Rattle.jiff_core.specs.declared.civil.date.Date.{Date}
use Rattle.readings.specs.declared.reading.Reading.{Reading}
use Rattle.readings.specs.declared.reading.Reading.TheVariants as reading
use Rattle.sentence_fields.specs.Field.{degrees, degrees_per_minute, knots, kilometres_per_hour, metres_per_second, metres, feet, fathoms, offset_metres, range_metres, nautical_miles, track_miles, minutes, fix_minutes, altitude_metres, separation_metres, dilution, celsius, letter_where, sentence_by}
use Rattle.sentence_fields.specs.declared.field.Field.{Field}
use Rattle.sentence_fields.specs.declared.field.Field.TheVariants.{Empty, Letter, Decimal, Magnitude, Side, Angle, Degrees, Time, Digits, Satellites}
use Rattle.sentence_profile.specs.Calendar.{CivilDate, civil_date}

-- the value, where it is the one that is meant
abbrev pub only_if : Bool → Option ℤ → Option ℤ
only_if meant value = if meant then value else None

-- latitude and longitude are said together or not at all
abbrev pub beside : Option ℤ → Option ℤ → Option ℤ
beside value other = only_if (is_some other) value

-- thousandths of a degree Celsius
abbrev pub above_freezing : Option ℤ → Option ℤ
above_freezing None = None
above_freezing (Some kelvin) = Some (kelvin -ℤ pos 273150)

abbrev pub hdt : Option ℤ → List Field
hdt h = Angle h ∷ Letter 84 ∷ []

abbrev pub ths : Option ℤ → List Field
ths h = Angle h ∷ Letter (letter_where (is_some h) 65 86) ∷ []

abbrev pub hdg : Option ℤ → Option ℤ → Option ℤ → List Field
hdg h d v = Angle h ∷ Magnitude d degrees ∷ Side d degrees 69 87 ∷ Magnitude v degrees ∷ Side v degrees 69 87 ∷ []

abbrev pub rot : Option ℤ → List Field
rot r = Decimal r degrees_per_minute ∷ Letter (letter_where (is_some r) 65 86) ∷ []

abbrev pub rsa_first : Option ℤ → List Field
rsa_first p = Decimal p degrees ∷ Letter (letter_where (is_some p) 65 86) ∷ Empty ∷ Letter 86 ∷ []

abbrev pub rsa_second : Option ℤ → List Field
rsa_second p = Empty ∷ Letter 86 ∷ Decimal p degrees ∷ Letter (letter_where (is_some p) 65 86) ∷ []

abbrev pub vhw : Option ℤ → List Field
vhw s = Empty ∷ Letter 84 ∷ Empty ∷ Letter 77 ∷ Decimal s knots ∷ Letter 78 ∷ Decimal s kilometres_per_hour ∷ Letter 75 ∷ []

abbrev pub dpt : Option ℤ → Option ℤ → Option ℤ → List Field
dpt d o r = Decimal d metres ∷ Decimal o offset_metres ∷ Decimal r range_metres ∷ []

abbrev pub dbt : Option ℤ → List Field
dbt d = Decimal d feet ∷ Letter 102 ∷ Decimal d metres ∷ Letter 77 ∷ Decimal d fathoms ∷ Letter 70 ∷ []

abbrev pub vlw : Option ℤ → Option ℤ → List Field
vlw l t = Decimal l nautical_miles ∷ Letter 78 ∷ Decimal t nautical_miles ∷ Letter 78 ∷ []

abbrev pub gll : Option ℤ → Option ℤ → List Field
gll la lo =
    Degrees la minutes 2 ∷ Side la minutes 78 83 ∷ Degrees lo minutes 3 ∷ Side lo minutes 69 87 ∷ Empty
    ∷ Letter (letter_where (is_some la) 65 86) ∷ Letter (letter_where (is_some la) 65 78) ∷ []

abbrev pub vtg : Bool → Option ℤ → Option ℤ → List Field
vtg m c s =
    Angle (only_if (not m) c) ∷ Letter 84 ∷ Angle (only_if m c) ∷ Letter 77 ∷ Decimal s knots ∷ Letter 78 ∷ Decimal s kilometres_per_hour
    ∷ Letter 75 ∷ Letter (letter_where (is_some c || is_some s) 65 78) ∷ []

abbrev pub gga : Option ℤ → Option ℤ → Option ℤ → Option ℤ → ℕ → Option ℤ → Option ℤ → Option ℤ → List Field
gga t la lo al m n h s =
    Time t ∷ Degrees la fix_minutes 2 ∷ Side la fix_minutes 78 83 ∷ Degrees lo fix_minutes 3 ∷ Side lo fix_minutes 69 87
    ∷ Letter (letter_where (is_some la) (48 + m) 48) ∷ Satellites n ∷ Decimal h dilution ∷ Decimal al altitude_metres ∷ Letter 77
    ∷ Decimal s separation_metres ∷ Letter 77 ∷ Empty ∷ Empty ∷ []

-- with a date as the calendar has it
abbrev pub zda : Option ℤ → Option Date → List Field
zda t None = Time t ∷ Digits None 2 ∷ Digits None 2 ∷ Digits None 4 ∷ Digits (Some 0) 2 ∷ Digits (Some 0) 2 ∷ []
zda t (Some d) =
    Time t ∷ Digits (Some d.day) 2 ∷ Digits (Some d.month) 2 ∷ Digits (Some (unsigned_abs d.year)) 4 ∷ Digits (Some 0) 2 ∷ Digits (Some 0) 2 ∷ []

abbrev pub mwv : ℕ → Option ℤ → Option ℤ → List Field
mwv reference s a = Angle a ∷ Letter reference ∷ Decimal s knots ∷ Letter 78 ∷ Letter (letter_where (is_some a || is_some s) 65 86) ∷ []

abbrev pub mwd : Bool → Option ℤ → Option ℤ → List Field
mwd m s a =
    Angle (only_if (not m) a) ∷ Letter 84 ∷ Angle (only_if m a) ∷ Letter 77 ∷ Decimal s knots ∷ Letter 78 ∷ Decimal s metres_per_second ∷ Letter 77 ∷ []

abbrev pub mtw : Option ℤ → List Field
mtw k = Decimal (above_freezing k) celsius ∷ Letter 67 ∷ []

abbrev pub xte : Option ℤ → List Field
xte d =
    Letter (letter_where (is_some d) 65 86) ∷ Letter (letter_where (is_some d) 65 86) ∷ Magnitude d track_miles ∷ Side d track_miles 76 82
    ∷ Letter 78 ∷ Letter (letter_where (is_some d) 65 78) ∷ []

-- formatter and fields of each sentence of a reading, whose day has the date d
abbrev pub said : Bool → Option Date → Reading → List (List ℕ × List Field)
said with_ths d (reading.HeadingTrue h) = (codes "HDT", hdt h) ∷ (if with_ths then (codes "THS", ths h) ∷ [] else [])
said with_ths d (reading.HeadingMagnetic h dev var) = (codes "HDG", hdg h dev var) ∷ []
said with_ths d (reading.RateOfTurn r) = (codes "ROT", rot r) ∷ []
said with_ths d (reading.RudderFirst p) = (codes "RSA", rsa_first p) ∷ []
said with_ths d (reading.RudderSecond p) = (codes "RSA", rsa_second p) ∷ []
said with_ths d (reading.WaterSpeed s) = (codes "VHW", vhw s) ∷ []
said with_ths d (reading.Depth dep o r) = (codes "DPT", dpt dep o r) ∷ (codes "DBT", dbt dep) ∷ []
said with_ths d (reading.DistanceLog l t) = (codes "VLW", vlw l t) ∷ []
said with_ths d (reading.Position la lo) = (codes "GLL", gll (beside la lo) (beside lo la)) ∷ []
said with_ths d (reading.CourseSpeed m c s) = (codes "VTG", vtg m c s) ∷ []
said with_ths d (reading.Gnss da t la lo al m n h s) = (codes "GGA", gga t (beside la lo) (beside lo la) al m n h s) ∷ []
said with_ths d (reading.Time da t) = (codes "ZDA", zda t d) ∷ []
said with_ths d (reading.WindApparent s a) = (codes "MWV", mwv 82 s a) ∷ []
said with_ths d (reading.WindTrue s a) = (codes "MWV", mwv 84 s a) ∷ []
said with_ths d (reading.WindNorth m s a) = (codes "MWD", mwd m s a) ∷ []
said with_ths d (reading.WaterTemperature k) = (codes "MTW", mtw k) ∷ []
said with_ths d (reading.CrossTrack x) = (codes "XTE", xte x) ∷ []

-- the day that a reading says a date of
abbrev pub day_said : Reading → Option ℤ
day_said (reading.Time da t) = da
day_said _ = None

-- it holds of the date of the day, if there is one
abbrev pub Dated : Option ℤ → (Option Date → Type 0) → Type 0
Dated None holds = holds None
Dated (Some day) holds = (d : Date) × (epoch_day d ≡ day) × holds (Some d)

-- the lines are the sentences in which the talker says the reading
abbrev pub IsText : Reading → List ℕ → Bool → List (List ℕ) → Type 0
IsText r talker with_ths lines = Dated (day_said r) (λ d. lines ≡ map (λ s. sentence_by talker s.0 s.1) (said with_ths d r))

-- ---- the same, computed

-- the time and date of ZDA, with the date as the calendar has it
abbrev pub zda_on : Option ℤ → CivilDate → List Field
zda_on t d = Time t ∷ Digits (Some d.day) 2 ∷ Digits (Some d.month) 2 ∷ Digits (Some d.year) 4 ∷ Digits (Some 0) 2 ∷ Digits (Some 0) 2 ∷ []

abbrev pub time_of : Reading → Option ℤ
time_of (reading.Time da t) = t
time_of _ = None

-- formatter and fields of each sentence of a reading that says this day
abbrev pub said_on : Bool → Reading → Option ℤ → List (List ℕ × List Field)
said_on with_ths r None = said with_ths None r
said_on with_ths r (Some day) = (codes "ZDA", zda_on (time_of r) (civil_date day)) ∷ []

abbrev pub sentences_of : List ℕ → Bool → Reading → List (List ℕ)
sentences_of talker with_ths r = map (λ s. sentence_by talker s.0 s.1) (said_on with_ths r (day_said r))
