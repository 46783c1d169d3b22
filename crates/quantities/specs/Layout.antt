-- The sentence in which each quantity is said.
use Rattle.std.specs.Prelude.{ℕ, ℤ, pos, ◌-ℤ◌, Bool, true, false, List, [], ◌∷◌, codes, map, Option, Some, None, is_some, slice_get, unwrap_or}
use Rattle.readings.specs.Ranges.{greatest_u16}
use Rattle.sentence_fields.specs.declared.field.Field.{Field}
use Rattle.sentence_fields.specs.declared.field.Field.TheVariants as field
use Rattle.sentence_fields.specs.declared.written_unit.WrittenUnit.{WrittenUnit}
use Rattle.sentence_fields.specs.Field.{degrees, knots, letter_where, text_of}
use Rattle.quantities.specs.declared.about.Quantity.{Quantity}
use Rattle.quantities.specs.declared.about.Quantity.TheVariants as quantity
use Rattle.quantities.specs.declared.column.Column.{Column as CodeColumn}
use Rattle.quantities.specs.declared.column.Column.TheVariants as code
use Rattle.quantities.specs.declared.layout.Layout.{Layout as CodeLayout}

-- ---- units: the fraction, the decimals, the largest value of either sign and the most digits

abbrev pub by : ℕ → ℕ → ℕ → ℕ → ℕ → WrittenUnit
by num den places largest digits = record { num = num; den = den; places = places; largest = largest; digits = digits }

-- from 0.001 m/s
abbrev pub component_knots : WrittenUnit
component_knots = by 90 463 2 32764 4

-- from 0.1 Pa
abbrev pub air_bars : WrittenUnit
air_bars = by 1 100 4 2000000 5

-- from 100 Pa
abbrev pub oil_bars : WrittenUnit
oil_bars = by 1 10 2 greatest_u16 4

-- from 0.004 %
abbrev pub percent : WrittenUnit
percent = by 1 25 1 25000 4

-- from thousandths of a degree
abbrev pub celsius : WrittenUnit
celsius = by 1 100 1 16504062 6

-- from 0.25 a minute
abbrev pub revolutions : WrittenUnit
revolutions = by 5 2 1 greatest_u16 6

-- from 0.01 V
abbrev pub volts : WrittenUnit
volts = by 1 1 2 32764 5

-- from 0.1 A
abbrev pub amperes : WrittenUnit
amperes = by 1 1 1 32764 5

-- ---- a field of a sentence

-- What stands in a field; values are counted from 0.
pub data Column : Type 0 where
  nothing : Column
  letter : ℕ → Column
  -- the name of a transducer
  word : List ℕ → Column
  -- a value in a unit
  decimal : ℕ → WrittenUnit → Column
  -- a value as a course
  course : ℕ → Column
  -- a value in thousandths of a kelvin
  temperature : ℕ → Column
  -- A where a value is there, V where it isn't
  status : ℕ → Column

abbrev pub value_at : List (Option ℤ) → ℕ → Option ℤ
value_at values at = unwrap_or (slice_get values at) None

-- thousandths of a degree Celsius of thousandths of a kelvin
abbrev pub above_freezing : Option ℤ → Option ℤ
above_freezing None = None
above_freezing (Some kelvin) = Some (kelvin -ℤ pos 273150)

abbrev pub text_in : List (Option ℤ) → Column → List ℕ
text_in values nothing = []
text_in values (letter c) = c ∷ []
text_in values (word bytes) = bytes
text_in values (decimal at unit) = text_of (field.Decimal (value_at values at) unit)
text_in values (course at) = text_of (field.Angle (value_at values at))
text_in values (temperature at) = text_of (field.Decimal (above_freezing (value_at values at)) celsius)
text_in values (status at) = letter_where (is_some (value_at values at)) 65 86 ∷ []

-- ---- the sentences

-- A sentence: its formatter and its fields.
pub record Layout : Type 0 where
  pub formatter : List ℕ
  pub columns : List Column

abbrev layout : List ℕ → List Column → Layout
layout formatter columns = record { formatter = formatter; columns = columns }

-- one transducer of XDR: its kind, what is measured, the unit and the name
abbrev transducer : ℕ → Column → ℕ → List ℕ → List Column → List Column
transducer kind measured unit name more = letter kind ∷ measured ∷ letter unit ∷ word name ∷ more

-- an engine by its number, which counts from the centre line (IEC 61162-1): 0 single or on it, odd to starboard, even to port
abbrev revolutions_of : ℕ → Layout
revolutions_of number = layout (codes "RPM") (letter 69 ∷ letter number ∷ decimal 0 revolutions ∷ nothing ∷ status 0 ∷ [])

-- the first engine (PGN 127488, instance 0) is the single one, or the port one of two
abbrev first_number : Bool → ℕ
first_number false = 48
first_number true = 50

abbrev engine_of : List ℕ → List ℕ → Layout
engine_of engine oil = layout (codes "XDR") (transducer 67 (temperature 0) 67 engine (transducer 80 (decimal 1 oil_bars) 66 oil []))

abbrev battery_of : List ℕ → Layout
battery_of name = layout (codes "XDR") (transducer 85 (decimal 0 volts) 86 name (transducer 73 (decimal 1 amperes) 65 name []))

abbrev level_of : List ℕ → Layout
level_of name = layout (codes "XDR") (transducer 86 (decimal 0 percent) 80 name [])

-- of a boat with two engines or not
abbrev pub layout_of : Bool → Quantity → Layout
layout_of twin quantity.Attitude = layout (codes "XDR") (transducer 65 (decimal 0 degrees) 68 (codes "PITCH") (transducer 65 (decimal 1 degrees) 68 (codes "ROLL") []))
layout_of twin quantity.SetDrift = layout (codes "VDR") (course 0 ∷ letter 84 ∷ course 1 ∷ letter 77 ∷ decimal 2 knots ∷ letter 78 ∷ [])
layout_of twin quantity.SpeedComponents =
    layout (codes "VBW")
    (decimal 0 component_knots ∷ decimal 1 component_knots ∷ status 0 ∷ decimal 2 component_knots ∷ decimal 3 component_knots ∷ status 2 ∷ decimal 4 component_knots ∷ status 4
    ∷ decimal 5 component_knots ∷ status 5 ∷ [])
layout_of twin quantity.AirPressure = layout (codes "XDR") (transducer 80 (decimal 0 air_bars) 66 (codes "BAROMETER") [])
layout_of twin quantity.AirHumidity = layout (codes "XDR") (transducer 72 (decimal 0 percent) 80 (codes "HUMIDITY") [])
layout_of twin quantity.AirTemperature = layout (codes "XDR") (transducer 67 (temperature 0) 67 (codes "AIR") [])
layout_of twin quantity.SeaTemperature = layout (codes "MTW") (temperature 0 ∷ letter 67 ∷ [])
layout_of twin quantity.EngineFirst = revolutions_of (first_number twin)
layout_of twin quantity.EngineSecond = revolutions_of 49
layout_of twin quantity.EngineStateFirst = engine_of (codes "ENGINE#0") (codes "ENGOIL#0")
layout_of twin quantity.EngineStateSecond = engine_of (codes "ENGINE#1") (codes "ENGOIL#1")
layout_of twin quantity.BatteryFirst = battery_of (codes "BATTERY#0")
layout_of twin quantity.BatterySecond = battery_of (codes "BATTERY#1")
layout_of twin quantity.FuelFirst = level_of (codes "FUEL#0")
layout_of twin quantity.FuelSecond = level_of (codes "FUEL#1")
layout_of twin quantity.WaterFirst = level_of (codes "FRESHWATER#0")

-- of so many values, the first ones, one has to be there for a message to be usable
abbrev pub telling_of : Quantity → ℕ
telling_of quantity.Attitude = 2
telling_of quantity.SetDrift = 2
telling_of quantity.SpeedComponents = 6
telling_of _ = 1

-- ---- the same in the code's terms

abbrev pub seen : CodeColumn → Column
seen code.Empty = nothing
seen (code.Letter c) = letter c
seen (code.Word bytes) = word bytes.now
seen (code.Decimal at unit) = decimal at unit
seen (code.Course at) = course at
seen (code.Celsius at) = temperature at
seen (code.Status at) = status at

abbrev pub seen_layout : CodeLayout → Layout
seen_layout l = record { formatter = l.formatter; columns = map seen l.columns.now }

-- the field whose text stands in the column
abbrev pub field_by : List (Option ℤ) → CodeColumn → Field
field_by values code.Empty = field.Empty
field_by values (code.Letter c) = field.Letter c
field_by values (code.Word bytes) = field.Word bytes
field_by values (code.Decimal at unit) = field.Decimal (value_at values at) unit
field_by values (code.Course at) = field.Angle (value_at values at)
field_by values (code.Celsius at) = field.Decimal (above_freezing (value_at values at)) celsius
field_by values (code.Status at) = field.Letter (letter_where (is_some (value_at values at)) 65 86)
