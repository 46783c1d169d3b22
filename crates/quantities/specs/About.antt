-- What each quantity is beside its values.
use Rattle.std.specs.Prelude.{ℕ, List, [], ◌∷◌, codes}
use Rattle.quantities.specs.declared.about.Quantity.{Quantity}
use Rattle.quantities.specs.declared.about.Quantity.TheVariants as quantity

-- A quantity's name in a configuration, and its talker where no other is configured (IEC 61162-1).
pub record About : Type 0 where
  pub name : List ℕ
  pub talker : List ℕ

abbrev about : List ℕ → List ℕ → About
about name talker = record { name = name; talker = talker }

-- a velocity sensor, weather instruments, an engine's monitor, a transducer of temperature, and integrated instruments for the rest
abbrev pub about_of : Quantity → About
about_of quantity.Attitude = about (codes "attitude") (codes "II")
about_of quantity.SetDrift = about (codes "set_drift") (codes "II")
about_of quantity.SpeedComponents = about (codes "speed_components") (codes "VD")
about_of quantity.AirPressure = about (codes "air_pressure") (codes "WI")
about_of quantity.AirHumidity = about (codes "air_humidity") (codes "WI")
about_of quantity.AirTemperature = about (codes "air_temperature") (codes "WI")
about_of quantity.SeaTemperature = about (codes "sea_temperature") (codes "YX")
about_of quantity.EngineFirst = about (codes "engine_first") (codes "ER")
about_of quantity.EngineSecond = about (codes "engine_second") (codes "ER")
about_of quantity.EngineStateFirst = about (codes "engine_state_first") (codes "ER")
about_of quantity.EngineStateSecond = about (codes "engine_state_second") (codes "ER")
about_of quantity.BatteryFirst = about (codes "battery_first") (codes "II")
about_of quantity.BatterySecond = about (codes "battery_second") (codes "II")
about_of quantity.FuelFirst = about (codes "fuel_first") (codes "II")
about_of quantity.FuelSecond = about (codes "fuel_second") (codes "II")
about_of quantity.WaterFirst = about (codes "water_first") (codes "II")

-- all quantities, in their order
unfoldable pub quantities : List Quantity
quantities =
    quantity.Attitude ∷ quantity.SetDrift ∷ quantity.SpeedComponents ∷ quantity.AirPressure ∷ quantity.AirHumidity ∷ quantity.AirTemperature ∷ quantity.SeaTemperature ∷ quantity.EngineFirst
    ∷ quantity.EngineSecond ∷ quantity.EngineStateFirst ∷ quantity.EngineStateSecond ∷ quantity.BatteryFirst ∷ quantity.BatterySecond ∷ quantity.FuelFirst ∷ quantity.FuelSecond ∷ quantity.WaterFirst ∷ []

-- how many there are
abbrev pub quantities_count : ℕ
quantities_count = 16

-- the place of a quantity among all, from 0
abbrev pub number_of : Quantity → ℕ
number_of quantity.Attitude = 0
number_of quantity.SetDrift = 1
number_of quantity.SpeedComponents = 2
number_of quantity.AirPressure = 3
number_of quantity.AirHumidity = 4
number_of quantity.AirTemperature = 5
number_of quantity.SeaTemperature = 6
number_of quantity.EngineFirst = 7
number_of quantity.EngineSecond = 8
number_of quantity.EngineStateFirst = 9
number_of quantity.EngineStateSecond = 10
number_of quantity.BatteryFirst = 11
number_of quantity.BatterySecond = 12
number_of quantity.FuelFirst = 13
number_of quantity.FuelSecond = 14
number_of quantity.WaterFirst = 15
