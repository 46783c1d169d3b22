-- What NMEA 2000 PGN 129038 (AIS class A position report) says, as a report of ITU-R M.1371.
use Rattle.std.specs.Prelude.{ℕ, ◌%◌, min, nat_lt, ℤ, pos, ◌*ℤ◌, int_lt, unsigned_abs, Bool, ◌||◌, ◌==◌, List, length, slice_index, Option, Some, None, Result, Ok, Err, if◌then◌else◌}
use Rattle.readings.specs.declared.range.Range.{Range}
use Rattle.readings.specs.Numbers.{bits_of as bits, unsigned_at, signed_at}
use Rattle.readings.specs.Ranges.{angle, speed, latitude, longitude}
use Rattle.unit_fraction.specs.Round.{round}
use Rattle.ais_report.specs.declared.report.AisReport.{AisReport}
use Rattle.ais_report.specs.declared.report.AisFault.{AisFault}
use Rattle.ais_report.specs.declared.report.AisFault.TheVariants.{Short, Outside}
use Rattle.ais_report.specs.Fields.{most_mmsi}

-- how many bytes its payload has at least
abbrev pub least_bytes : ℕ
least_bytes = 26

-- ---- numbers of the payload: none where they are out of the range of their quantity

abbrev pub held : Range → Option ℤ → Option ℤ
held range None = None
held range (Some value) = if int_lt value range.low then None else if int_lt range.high value then None else Some value

abbrev pub positive : Option ℕ → Option ℤ
positive None = None
positive (Some n) = Some (pos n)

-- the unsigned number of two bytes at a place
abbrev pub unsigned_held : Range → List ℕ → ℕ → Option ℤ
unsigned_held range p place = held range (positive (unsigned_at p place 2))

-- the signed number of four bytes at a place
abbrev pub signed_held : Range → List ℕ → ℕ → Option ℤ
signed_held range p place = held range (signed_at p place 4)

abbrev pub whole : Option ℕ → ℕ
whole None = 0
whole (Some n) = n

-- ---- quantities: each value of the payload times one fraction, as the nearest whole number

-- times so many, by so many
abbrev pub times : ℤ → ℕ → ℕ → ℤ
times value num den = round (value *ℤ pos num) den

-- tenths of a knot from hundredths of m/s: 1022 stands for 102.2 knots and more, 1023 for none that is known
abbrev pub sog_of : Option ℤ → ℕ
sog_of None = 1023
sog_of (Some value) = min 1022 (unsigned_abs (times value 90 463))

-- ten-thousandths of a minute from 1e-7 degree; 181 degrees stand for no longitude, and 91 for no latitude
abbrev pub position_of : ℤ → Option ℤ → ℤ
position_of absent None = absent
position_of absent (Some value) = times value 3 50

-- tenths of a degree from 1e-4 radian, once round; 3600 stands for no course
abbrev pub cog_of : Option ℤ → ℕ
cog_of None = 3600
cog_of (Some value) = unsigned_abs (times value 180000000000000 3141592653589793) % 3600

-- degrees from 1e-4 radian, once round; 511 stands for no heading
abbrev pub heading_of : Option ℤ → ℕ
heading_of None = 511
heading_of (Some value) = unsigned_abs (times value 18000000000000 3141592653589793) % 360

-- ---- the payload

-- behind the state of the radio
abbrev pub transceiver_in : ℕ → ℕ
transceiver_in word = bits word 19 5

module _ (p : List ℕ) where
  -- bits of a byte: from this bit on, so many
  abbrev pub bits_in : ℕ → ℕ → ℕ → ℕ
  bits_in place low count = bits (slice_index p place) low count

  abbrev pub user_id : ℕ
  user_id = whole (unsigned_at p 1 4)

  -- the state of the radio, and behind it the transceiver
  abbrev pub radio_word : ℕ
  radio_word = whole (unsigned_at p 18 3)

  abbrev pub transceiver : ℕ
  transceiver = transceiver_in radio_word

  abbrev pub report_in : AisReport
  report_in = record {
    kind = bits_in 0 0 6;
    repeat = bits_in 0 6 2;
    mmsi = user_id;
    status = bits_in 25 0 4;
    sog = sog_of (unsigned_held speed p 16);
    accuracy = bits_in 13 0 1 == 1;
    longitude = position_of (pos 108600000) (signed_held longitude p 5);
    latitude = position_of (pos 54600000) (signed_held latitude p 9);
    cog = cog_of (unsigned_held angle p 14);
    heading = heading_of (unsigned_held angle p 21);
    second = bits_in 13 2 6;
    manoeuvre = bits_in 25 4 2;
    raim = bits_in 13 1 1 == 1;
    radio = bits radio_word 0 19;
  }

  -- another kind of message, no number of a ship, or a transceiver that isn't known
  abbrev pub is_outside : Bool
  is_outside = nat_lt (bits_in 0 0 6) 1 || nat_lt 3 (bits_in 0 0 6) || nat_lt most_mmsi user_id || nat_lt 1 transceiver

  -- transceiver 0 hears channel A, and 1 channel B
  abbrev pub channel : ℕ
  channel = if transceiver == 0 then 65 else 66

  -- the report with the letter of its channel
  abbrev pub converted : Result (AisReport × ℕ) AisFault
  converted =
      if nat_lt (length p) least_bytes then Err Short
      else if is_outside then Err Outside
      else Ok (report_in, channel)
