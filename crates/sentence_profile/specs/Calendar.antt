-- The dates of the calendar by their numbers.
use Rattle.std.specs.Prelude.{◌≡◌, ℕ, zero, suc, ◌+◌, ◌-◌, ℤ, pos, unsigned_abs, Bool, true, false, ◌&&◌, nat_le, nat_lt, Option, Some, None, refl, if◌then◌else◌}
use lib.Dec.{T}
use lib.Signed.{le_z_yes}
use Rattle.std.specs.Int.{IsInRange}
use Rattle.std.proofs.lemmas.Bool.{leb-true, and_parts, false≢true}
use Rattle.jiff_core.specs.declared.civil.date.Date.{Date}
use Rattle.jiff_core.specs.Calendar.{days_in_month, days_in_year, IsYear}
use Rattle.jiff_core.specs.Date.{epoch_day}

-- the calendar has such a year, month and day
abbrev pub is_year : ℕ → Bool
is_year year = nat_le year 9999

abbrev pub is_month : ℕ → Bool
is_month month = nat_le 1 month && nat_le month 12

abbrev pub is_day : ℕ → ℕ → ℕ → Bool
is_day year month day = nat_le 1 day && nat_le day (days_in_month (pos year) month)

-- what these tests say
passes : (b : Bool) → b ≡ true → T b
passes true e = tt
passes false e = absurd (false≢true e)

pub year_within : (year : ℕ) → is_year year ≡ true → IsYear (pos year)
year_within year e = (le_z_yes tt, le_z_yes (passes (nat_le year 9999) e))

pub within : (low high n : ℕ) → (nat_le low n && nat_le n high) ≡ true → IsInRange low high n
within low high n e = let parts = and_parts (nat_le low n) (nat_le n high) e in (leb-true low n parts.0, leb-true n high parts.1)

abbrev pub date_if : (year month day : ℕ) (y m d : Bool) → is_year year ≡ y → is_month month ≡ m → is_day year month day ≡ d → Option Date
date_if year month day true true true y m d = Some (record {
  year = pos year;
  month = month;
  day = day;
  year_in = year_within year y;
  month_in = within 1 12 month m;
  day_in = within 1 (days_in_month (pos year) month) day d;
})
date_if year month day _ _ _ y m d = None

-- the date of this year, month and day, where the calendar has it
unfoldable pub date_of : ℕ → ℕ → ℕ → Option Date
date_of year month day = date_if year month day (is_year year) (is_month month) (is_day year month day) refl refl refl

-- ---- the date of a day, counted from 1 January 1970

pub record CivilDate : Type 0 where
  pub year : ℕ
  pub month : ℕ
  pub day : ℕ

abbrev pub ymd : ℕ → ℕ → ℕ → CivilDate
ymd year month day = record { year = year; month = month; day = day }

-- the date so many days after the first of a month, within so many months
unfoldable pub date_in_year : ℕ → ℕ → ℕ → ℕ → CivilDate
date_in_year zero year month days = ymd year month (days + 1)
date_in_year (suc months) year month days =
    if nat_lt days (days_in_month (pos year) month) then ymd year month (days + 1)
    else date_in_year months year (month + 1) (days - days_in_month (pos year) month)

-- the date so many days after 1 January of a year, within so many years
unfoldable pub date_after : ℕ → ℕ → ℕ → CivilDate
date_after zero year days = date_in_year 12 year 1 days
date_after (suc years) year days =
    if nat_lt days (days_in_year (pos year)) then date_in_year 12 year 1 days
    else date_after years (year + 1) (days - days_in_year (pos year))

-- the days that a message can name end in the year 2149
unfoldable pub civil_date : ℤ → CivilDate
civil_date day = date_after 200 1970 (unsigned_abs day)

-- the date of the calendar is this one
abbrev pub IsCivil : CivilDate → Date → Type 0
IsCivil c d = (d.year ≡ pos c.year) × (d.month ≡ c.month) × (d.day ≡ c.day)

-- the calendar has the date, and it is the one of that day
abbrev pub IsDateOf : ℤ → CivilDate → Type 0
IsDateOf day c = (d : Date) × IsCivil c d × (epoch_day d ≡ day)
