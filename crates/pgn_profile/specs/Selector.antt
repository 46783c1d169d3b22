-- The readings of one message that a selector in its payload tells apart.
use Rattle.std.specs.Prelude.{ℤ, Option}
use Rattle.readings.specs.declared.reading.Reading.{Reading}
use Rattle.readings.specs.declared.reading.Reading.TheVariants.{RudderFirst, RudderSecond, WindApparent, WindTrue, WindNorth}
use Rattle.pgn_profile.specs.declared.steering.Rudder.{Rudder}
use Rattle.pgn_profile.specs.declared.steering.Rudder.TheVariants.{First, Second}
use Rattle.pgn_profile.specs.declared.wind.Wind.{Wind}
use Rattle.pgn_profile.specs.declared.wind.Wind.TheVariants.{Apparent, North, True}

-- the position of a rudder, by its instance
abbrev pub rudder_of : Rudder → Option ℤ → Reading
rudder_of First position = RudderFirst position
rudder_of Second position = RudderSecond position

-- the speed and the angle of a wind, by its reference
abbrev pub wind_of : Wind → Option ℤ → Option ℤ → Reading
wind_of Apparent speed angle = WindApparent speed angle
wind_of True speed angle = WindTrue speed angle
wind_of (North magnetic) speed angle = WindNorth magnetic speed angle
