-- The datagram with RMC (IEC 61162-1, IEC 61162-450) that an entry gives, over everything that ever came: one for each message that is
-- selected and says where the ship is.
use Rattle.std.specs.Prelude.{ℕ, ◌+◌, ℤ, not, List, [], ◌∷◌, slice_index, Option, Some, None, if◌then◌else◌}
use Rattle.readings.specs.declared.reading.Reading.{Reading}
use Rattle.readings.specs.declared.reading.Reading.TheVariants as reading
use Rattle.readings.specs.declared.rows.Row.{Row}
use Rattle.readings.specs.declared.rows.Row.TheVariants as row
use Rattle.readings.specs.Rows.{row_number}
use Rattle.sentence_profile.specs.Writing.{only_if}
use Rattle.sentence_profile.specs.declared.minimum.Minimum.{Minimum}
use Rattle.sentence_profile.specs.Rmc.{rmc_text}
use Rattle.datagram450.specs.Datagram.{sentence_datagram}
use Rattle.gate_events.specs.Emit.{Emit, net}
use Rattle.history.specs.Entries.{Entry, History, moment_of}
use Rattle.history.specs.Settings.{Settings}
use Rattle.settings.specs.declared.rmc.RmcConfig.{RmcConfig}
use Rattle.parts.specs.Selected.{selected_at}
use Rattle.joined_rmc.specs.Lasting.{is_due, lasting}

-- how RMC is said
pub record RmcRule : Type 0 where
  -- the transmission group, the talker, and the system function identifier by which the gateway speaks
  pub group : List ℕ
  pub talker : List ℕ
  pub sfi : List ℕ
  -- of each row how long what was said counts, in milliseconds, by the row's number
  pub timeouts : List ℕ

abbrev pub rule_by : RmcConfig → List ℕ → List ℕ → RmcRule
rule_by config sfi timeouts = record { group = config.group; talker = config.talker; sfi = sfi; timeouts = timeouts }

abbrev pub timeout_of : List ℕ → Row → ℕ
timeout_of timeouts row = slice_index timeouts (row_number row)

-- ---- what a message of each row says of it

abbrev pub time_in : Option Reading → Option ℤ
time_in (Some (reading.Time d t)) = t
time_in _ = None

abbrev pub date_in : Option Reading → Option ℤ
date_in (Some (reading.Time d t)) = d
date_in _ = None

abbrev pub latitude_in : Option Reading → Option ℤ
latitude_in (Some (reading.Position la lo)) = la
latitude_in _ = None

abbrev pub longitude_in : Option Reading → Option ℤ
longitude_in (Some (reading.Position la lo)) = lo
longitude_in _ = None

abbrev pub speed_in : Option Reading → Option ℤ
speed_in (Some (reading.CourseSpeed m c s)) = s
speed_in _ = None

-- a course is said where it is true, and not magnetic
abbrev pub course_in : Option Reading → Option ℤ
course_in (Some (reading.CourseSpeed m c s)) = only_if (not m) c
course_in _ = None

abbrev pub variation_in : Option Reading → Option ℤ
variation_in (Some (reading.HeadingMagnetic h d v)) = v
variation_in _ = None

abbrev pub minimum_of : Option Reading → Option Reading → Option Reading → Option Reading → Minimum
minimum_of time position motion heading = record {
  time = time_in time;
  date = date_in time;
  latitude = latitude_in position;
  longitude = longitude_in position;
  speed = speed_in motion;
  course = course_in motion;
  variation = variation_in heading;
}

-- the datagram: so many lines were said before
abbrev pub datagram_by : List ℕ → List ℕ → ℕ → Minimum → List ℕ
datagram_by sfi talker before x = sentence_datagram sfi before (rmc_text talker x)

-- ---- over the history

module _ (r : RmcRule) (c : Settings) (s : ℕ) where
  -- how many such datagrams there were, each of one line
  abbrev pub lines_before : History → ℕ
  lines_before [] = 0
  lines_before (e ∷ h) = if is_due (selected_at c s h e) then lines_before h + 1 else lines_before h

  abbrev pub joined_in : Row → History → ℕ → Option Reading
  joined_in row h m = lasting c s (timeout_of r.timeouts row) row h m

  -- what RMC says at a moment
  abbrev pub minimum : History → ℕ → Minimum
  minimum h m = minimum_of (joined_in row.Time h m) (joined_in row.Position h m) (joined_in row.CourseSpeed h m) (joined_in row.HeadingMagnetic h m)

  -- the datagram that an entry gives
  abbrev pub rmc_datagram : History → Entry → Option (List ℕ)
  rmc_datagram h e =
      if is_due (selected_at c s h e) then Some (datagram_by r.sfi r.talker (lines_before h) (minimum (e ∷ h) (moment_of e))) else None

  abbrev pub sent_to : List ℕ → Option (List ℕ) → List Emit
  sent_to group None = []
  sent_to group (Some bytes) = net group bytes ∷ []

  -- what an entry makes the gateway say by it on the network
  abbrev pub rmc_out : History → Entry → List Emit
  rmc_out h e = sent_to r.group (rmc_datagram h e)
