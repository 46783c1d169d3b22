-- The sentences of a joined heading (IEC 61162-1).
use Rattle.std.specs.Prelude.{ℕ, ℤ, pos, ◌+ℤ◌, ◌-ℤ◌, Bool, List, [], ◌∷◌, ◌++◌, codes, Option, Some, None, option_map, unwrap_or}
use Rattle.std.specs.Int.{int_rem_euclid}
use Rattle.readings.specs.Ranges as ranges
use Rattle.readings.specs.Ranges.{Admits, from_to}
use Rattle.readings.specs.declared.range.Range.{Range}
use Rattle.sentence_fields.specs.Field.{count, degrees, sentence_by}
use Rattle.sentence_fields.specs.declared.field.Field.{Field}
use Rattle.sentence_fields.specs.declared.field.Field.TheVariants.{Decimal, Letter}
use Rattle.sentence_fields.specs.declared.written_unit.WrittenUnit.{WrittenUnit}
use Rattle.sentence_profile.specs.Writing.{hdg}
use Rattle.counted_lines.specs.CountedLines.{only_where}
use Rattle.joined_heading.specs.declared.magnetic.MagneticHeading.{MagneticHeading}

-- ---- the sum of a heading and what is added to it, in 1e-4 radian: what isn't there of the deviation counts as none

-- the values of a magnetic heading are in their ranges
pub record IsHeading (a : MagneticHeading) : Type 0 where
  pub heading : Admits ranges.angle a.heading
  pub deviation : Admits ranges.deviation a.deviation
  pub variation : Admits ranges.deviation a.variation

abbrev pub sum_range : Range
sum_range = from_to (pos 0 -ℤ pos 31416) (pos 94248)

abbrev pub magnetic_sum : Option ℤ → Option ℤ → Option ℤ
magnetic_sum None d = None
magnetic_sum (Some h) d = Some (h +ℤ unwrap_or d (pos 0))

abbrev pub true_sum : Option ℤ → Option ℤ → Option ℤ
true_sum sum None = None
true_sum None (Some v) = None
true_sum (Some sum) (Some v) = Some (sum +ℤ v)

-- ---- a heading that is said: rounded once, to tenths of a degree, and within the circle

abbrev pub tenths : ℤ → ℤ
tenths raw = int_rem_euclid (count degrees raw) (pos 3600)

abbrev pub tenth_degrees : WrittenUnit
tenth_degrees = record { num = 1; den = 1; places = 1; largest = 3599; digits = 4 }

abbrev pub heading_field : Option ℤ → Field
heading_field raw = Decimal (option_map tenths raw) tenth_degrees

abbrev pub north : Option ℤ → ℕ → List Field
north raw letter = heading_field raw ∷ Letter letter ∷ []

-- ---- its sentences

abbrev pub hdg_text : List ℕ → MagneticHeading → List ℕ
hdg_text talker a = sentence_by talker (codes "HDG") (hdg a.heading a.deviation a.variation)

abbrev pub hdm_text : List ℕ → MagneticHeading → List ℕ
hdm_text talker a = sentence_by talker (codes "HDM") (north (magnetic_sum a.heading a.deviation) 77)

abbrev pub hdt_text : List ℕ → MagneticHeading → List ℕ
hdt_text talker a = sentence_by talker (codes "HDT") (north (true_sum (magnetic_sum a.heading a.deviation) a.variation) 84)

-- HDM where it is asked for, and a true heading where it is computed
abbrev pub heading_texts : List ℕ → Bool → Bool → MagneticHeading → List (List ℕ)
heading_texts talker hdm computed a = hdg_text talker a ∷ (only_where hdm (hdm_text talker a) ++ only_where computed (hdt_text talker a))
