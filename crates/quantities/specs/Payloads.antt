-- The payloads that say the quantities, after canboat's tables.
use Rattle.std.specs.Prelude.{ℕ, true, false, List, [], ◌∷◌}
use Rattle.readings.specs.Ranges.{either_side, greatest_u16, up_to}
use Rattle.pgn_profile.specs.declared.kinds.Kind.{Kind}
use Rattle.pgn_profile.specs.declared.kinds.Kind.TheVariants.{Single, Fast}
use Rattle.quantities.specs.declared.about.Quantity.{Quantity}
use Rattle.quantities.specs.declared.about.Quantity.TheVariants as quantity
use Rattle.quantities.specs.declared.part.Part.{Part}
use Rattle.quantities.specs.declared.part.Part.TheVariants.{Absent, Unsigned, Multiple, Signed}
use Rattle.quantities.specs.declared.part.Selector.{Selector}
use Rattle.quantities.specs.declared.part.Selector.TheVariants.{Always, Bits}
use Rattle.quantities.specs.declared.payloads.Entry.{Entry}
use Rattle.quantities.specs.declared.payloads.Parts.{Parts}

-- an entry that gives the one value of a message, by its quantity, its parameter group and how that comes, the least length, the selector (byte, lowest
-- bit, number of bits, value) and the parts (place, width, range; or place, width, highest number, factor)
abbrev entry : Quantity → ℕ → Kind → ℕ → Selector → Parts → Entry
entry quantity pgn kind least selector parts =
    record { quantity = quantity; pgn = pgn; kind = kind; least = least; place = 0; only_usable = false; selector = selector; parts = parts }

abbrev six : Part → Part → Part → Part → Part → Part → Parts
six first second third fourth fifth sixth = record { first = first; second = second; third = third; fourth = fourth; fifth = fifth; sixth = sixth }

abbrev triple : Part → Part → Part → Parts
triple first second third = six first second third Absent Absent Absent

abbrev pair : Part → Part → Parts
pair first second = triple first second Absent

abbrev alone : Part → Parts
alone first = pair first Absent

-- an entry of an older weather station, by its quantity, its parameter group, the least length, the place among the values of the message, the selector
-- and the value: one that isn't usable means that there is no such sensor
abbrev station : Quantity → ℕ → ℕ → ℕ → Selector → Part → Entry
station quantity pgn least place selector part = record {
  quantity = quantity;
  pgn = pgn;
  kind = Single;
  least = least;
  place = place;
  only_usable = true;
  selector = selector;
  parts = alone part;
}

unfoldable pub entries : List Entry
entries =
    entry quantity.Attitude 127257 Single 7 Always (pair (Signed 3 2 (either_side 31416)) (Signed 5 2 (either_side 31416)))
    ∷ entry quantity.SetDrift 129291 Single 6 (Bits 1 0 2 0) (triple (Unsigned 2 2 (up_to 62832)) Absent (Unsigned 4 2 (up_to greatest_u16)))
    ∷ entry quantity.SetDrift 129291 Single 6 (Bits 1 0 2 1) (triple Absent (Unsigned 2 2 (up_to 62832)) (Unsigned 4 2 (up_to greatest_u16)))
    ∷ entry quantity.SpeedComponents 130578 Fast 12 Always (six (Signed 0 2 (either_side 32764)) (Signed 2 2 (either_side 32764)) (Signed 4 2 (either_side 32764)) (Signed 6 2 (either_side 32764)) (Signed 8 2 (either_side 32764)) (Signed 10 2 (either_side 32764)))
    ∷ entry quantity.AirPressure 130314 Single 7 (Bits 2 0 8 0) (alone (Signed 3 4 (up_to 2000000)))
    ∷ station quantity.AirPressure 130310 7 0 Always (Multiple 5 2 2000 1000)
    ∷ station quantity.AirPressure 130311 8 0 Always (Multiple 6 2 2000 1000)
    ∷ entry quantity.AirHumidity 130313 Single 5 (Bits 2 0 8 1) (alone (Signed 3 2 (up_to 25000)))
    ∷ station quantity.AirHumidity 130311 8 1 (Bits 1 6 2 1) (Signed 4 2 (up_to 25000))
    ∷ entry quantity.AirTemperature 130312 Single 5 (Bits 2 0 8 1) (alone (Multiple 3 2 greatest_u16 10))
    ∷ entry quantity.AirTemperature 130316 Single 6 (Bits 2 0 8 1) (alone (Unsigned 3 3 (up_to 16777212)))
    ∷ station quantity.AirTemperature 130310 7 1 Always (Multiple 3 2 greatest_u16 10)
    ∷ station quantity.AirTemperature 130311 8 2 (Bits 1 0 6 1) (Multiple 2 2 greatest_u16 10)
    ∷ station quantity.SeaTemperature 130310 7 2 Always (Multiple 1 2 greatest_u16 10)
    ∷ station quantity.SeaTemperature 130311 8 2 (Bits 1 0 6 0) (Multiple 2 2 greatest_u16 10)
    ∷ entry quantity.EngineFirst 127488 Single 3 (Bits 0 0 8 0) (alone (Unsigned 1 2 (up_to greatest_u16)))
    ∷ entry quantity.EngineSecond 127488 Single 3 (Bits 0 0 8 1) (alone (Unsigned 1 2 (up_to greatest_u16)))
    ∷ entry quantity.EngineStateFirst 127489 Fast 26 (Bits 0 0 8 0) (pair (Multiple 5 2 greatest_u16 10) (Unsigned 1 2 (up_to greatest_u16)))
    ∷ entry quantity.EngineStateSecond 127489 Fast 26 (Bits 0 0 8 1) (pair (Multiple 5 2 greatest_u16 10) (Unsigned 1 2 (up_to greatest_u16)))
    ∷ entry quantity.BatteryFirst 127508 Single 5 (Bits 0 0 8 0) (pair (Signed 1 2 (either_side 32764)) (Signed 3 2 (either_side 32764)))
    ∷ entry quantity.BatterySecond 127508 Single 5 (Bits 0 0 8 1) (pair (Signed 1 2 (either_side 32764)) (Signed 3 2 (either_side 32764)))
    ∷ entry quantity.FuelFirst 127505 Single 3 (Bits 0 0 8 0x00) (alone (Signed 1 2 (up_to 25000)))
    ∷ entry quantity.FuelSecond 127505 Single 3 (Bits 0 0 8 0x01) (alone (Signed 1 2 (up_to 25000)))
    ∷ entry quantity.WaterFirst 127505 Single 3 (Bits 0 0 8 0x10) (alone (Signed 1 2 (up_to 25000)))
    ∷ []
