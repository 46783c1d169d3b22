-- RMC, recommended minimum data (IEC 61162-1): what several readings say, in one sentence.
use Rattle.std.specs.Prelude.{ℕ, ◌+◌, ◌*◌, ◌%◌, ℤ, List, [], ◌∷◌, codes, Option, Some, None}
use Rattle.readings.specs.Ranges as ranges
use Rattle.readings.specs.Ranges.{Admits}
use Rattle.sentence_fields.specs.Field.{degrees, knots, minutes, sentence_by}
use Rattle.sentence_fields.specs.declared.field.Field.{Field}
use Rattle.sentence_fields.specs.declared.field.Field.TheVariants.{Letter, Decimal, Magnitude, Side, Angle, Degrees, Time, Digits}
use Rattle.sentence_profile.specs.declared.minimum.Minimum.{Minimum}
use Rattle.sentence_profile.specs.Calendar.{CivilDate, civil_date}

-- what is printed with decimals is in its range
pub record IsMinimum (x : Minimum) : Type 0 where
  pub date : Admits ranges.date x.date
  pub latitude : Admits ranges.latitude x.latitude
  pub longitude : Admits ranges.longitude x.longitude
  pub speed : Admits ranges.speed x.speed
  pub variation : Admits ranges.deviation x.variation

-- day, month and year as the number ddmmyy, two digits each
abbrev pub date_number : CivilDate → ℕ
date_number d = d.day % 100 * 10000 + d.month % 100 * 100 + d.year % 100

abbrev pub date_said : Option ℤ → Option ℕ
date_said None = None
date_said (Some day) = Some (date_number (civil_date day))

-- the fields as in ZDA, GLL, VTG and HDG, and two letters that say that the data are valid, and the mode: autonomous
abbrev pub rmc : Minimum → List Field
rmc x =
    Time x.time ∷ Letter 65 ∷ Degrees x.latitude minutes 2 ∷ Side x.latitude minutes 78 83 ∷ Degrees x.longitude minutes 3
    ∷ Side x.longitude minutes 69 87 ∷ Decimal x.speed knots ∷ Angle x.course ∷ Digits (date_said x.date) 6 ∷ Magnitude x.variation degrees
    ∷ Side x.variation degrees 69 87 ∷ Letter 65 ∷ []

abbrev pub rmc_text : List ℕ → Minimum → List ℕ
rmc_text talker x = sentence_by talker (codes "RMC") (rmc x)
