-- The date that is computed for a day is the calendar's.
use Rattle.std.proofs.Common.{◌≡◌, ℕ, zero, suc, ◌+◌, ◌-◌, ◌*◌, ◌<◌, ◌≤◌, ℤ, pos, negsuc, ◌-ℤ◌, Bool, true, false, nat_lt, if◌then◌else◌, refl, ◌∙◌, ap, arith}
use Rattle.std.proofs.lemmas.Bool.Decides.{nat_tests}
use Rattle.std.proofs.lemmas.Int.{ints}
use Rattle.jiff_core.specs.Calendar.{is_leap_year, days_of_years, days_of_months, days_in_month, days_in_year, days_from_civil, day_count}
use Rattle.sentence_profile.specs.Calendar.{CivilDate, ymd, date_in_year, date_after, civil_date, IsDateOf}
use Rattle.sentence_profile.specs.Laws.{DatesAreTheCalendars}

lt_true : (a b : ℕ) → nat_lt a b ≡ true → a < b
lt_true a b e = grind (arith, nat_tests)

lt_false : (a b : ℕ) → nat_lt a b ≡ false → b ≤ a
lt_false a b e = grind (arith, nat_tests)

-- ---- within a year

months_more : (y : ℤ) (j : ℕ) → days_of_months y (suc j) ≡ days_of_months y j + days_in_month y (suc j)
unfolding days_of_months
months_more y j = refl

-- a date of the year, with the days before it and its own
record InYear (year total : ℕ) (d : CivilDate) : Type 0 where
  same : d.year ≡ year
  first : 1 ≤ d.month
  last : d.month ≤ 12
  early : 1 ≤ d.day
  late : d.day ≤ days_in_month (pos year) d.month
  counts : days_of_months (pos year) (d.month - 1) + d.day ≡ total

-- a day of this month
in_month : (year j days : ℕ) → j < 12 → days < days_in_month (pos year) (suc j) → InYear year (days_of_months (pos year) j + days + 1) (ymd year (suc j) (days + 1))
in_month year j days few less = record {
  same = refl;
  first = omega arith;
  last = omega arith;
  early = omega arith;
  late = omega (arith, less);
  counts = let back : suc j - 1 ≡ j = omega arith in rw back (omega arith);
}

in_year : (n year j days : ℕ) → j + n ≡ 12 → days_of_months (pos year) j + days < days_of_months (pos year) 12 → InYear year (days_of_months (pos year) j + days + 1) (date_in_year n year (suc j) days)
unfolding date_in_year
in_year zero year j days e less = absurd (let same : j ≡ 12 = omega arith in let at : days_of_months (pos year) j ≡ days_of_months (pos year) 12 = ap (days_of_months (pos year)) same in omega (arith, less, at))
in_year (suc n) year j days e less = by (λ d l. in_year n year (suc j) d (omega arith) l) (nat_lt days (days_in_month (pos year) (suc j))) refl
  where
    by : ((d : ℕ) → days_of_months (pos year) (suc j) + d < days_of_months (pos year) 12 → InYear year (days_of_months (pos year) (suc j) + d + 1) (date_in_year n year (suc (suc j)) d)) → (t : Bool) → nat_lt days (days_in_month (pos year) (suc j)) ≡ t → InYear year (days_of_months (pos year) j + days + 1) (if t then ymd year (suc j) (days + 1) else date_in_year n year (suc j + 1) (days - days_in_month (pos year) (suc j)))
    by onward true is = in_month year j days (omega arith) (lt_true days (days_in_month (pos year) (suc j)) is)
    by onward false is =
        let l = lt_false days (days_in_month (pos year) (suc j)) is in
        let more = months_more (pos year) j in
        let total : days_of_months (pos year) (suc j) + (days - days_in_month (pos year) (suc j)) ≡ days_of_months (pos year) j + days = omega (arith, l, more) in
        let rest = onward (days - days_in_month (pos year) (suc j)) (omega (arith, total, less)) in
        let next : suc (suc j) ≡ suc j + 1 = omega arith in
        rw (total, next) at rest

year_by : (y : ℤ) (leap : Bool) → is_leap_year y ≡ leap → days_of_months y 12 ≡ days_in_year y
unfolding days_of_months
year_by y true e = rw e refl
year_by y false e = rw e refl

year_length : (y : ℤ) → days_of_months y 12 ≡ days_in_year y
year_length y = year_by y (is_leap_year y) refl

pub no_months : (y : ℤ) → days_of_months y 0 ≡ 0
unfolding days_of_months
no_months y = refl

of_year : (year days : ℕ) → days < days_in_year (pos year) → InYear year (days + 1) (date_in_year 12 year 1 days)
of_year year days less =
    let none = no_months (pos year) in
    let length = year_length (pos year) in
    let found = in_year 12 year 0 days refl (omega (arith, none, length, less)) in
    let total : days_of_months (pos year) 0 + days + 1 ≡ days + 1 = omega (arith, none) in
    rw total at found

-- ---- over years

years_more : (n : ℕ) → days_of_years (suc n) ≡ days_of_years n + days_in_year (pos n -ℤ pos 10000)
unfolding days_of_years
years_more n = refl

year_of : (year n : ℕ) → n ≡ year + 10000 → pos n -ℤ pos 10000 ≡ pos year
year_of year n e = omega (arith, ints)

years_on : (year : ℕ) → days_of_years (year + 1 + 10000) ≡ days_of_years (year + 10000) + days_in_year (pos year)
years_on year =
    let place : year + 1 + 10000 ≡ suc (year + 10000) = omega arith in
    ap days_of_years place ∙ years_more (year + 10000) ∙ ap (λ y. days_of_years (year + 10000) + days_in_year y) (year_of year (year + 10000) refl)

-- a date, with the days of all years before it, of its months and its own
record OnDay (most total : ℕ) (d : CivilDate) : Type 0 where
  within : d.year ≤ most
  first : 1 ≤ d.month
  last : d.month ≤ 12
  early : 1 ≤ d.day
  late : d.day ≤ days_in_month (pos d.year) d.month
  counts : days_of_years (d.year + 10000) + (days_of_months (pos d.year) (d.month - 1) + d.day) ≡ total + 1

of_day : (year most days : ℕ) (d : CivilDate) → year ≤ most → InYear year (days + 1) d → OnDay most (days_of_years (year + 10000) + days) d
of_day year most days d low found = let same = found.same in record {
  within = omega (arith, same);
  first = found.first;
  last = found.last;
  early = found.early;
  late = rw same found.late;
  counts = rw same (omega (arith, found.counts));
}

on_day : (n year most days : ℕ) → year + n ≤ most → days_of_years (year + 10000) + days < days_of_years (year + n + 1 + 10000) → OnDay most (days_of_years (year + 10000) + days) (date_after n year days)
unfolding date_after
on_day zero year most days low less = of_day year most days (date_in_year 12 year 1 days) (omega arith) (of_year year days (let more = years_on year in let place : year + 0 + 1 + 10000 ≡ year + 1 + 10000 = omega arith in let l = rw place at less in omega (arith, l, more)))
on_day (suc n) year most days low less = by (λ d l. on_day n (year + 1) most d (omega arith) l) (nat_lt days (days_in_year (pos year))) refl
  where
    by : ((d : ℕ) → days_of_years (year + 1 + 10000) + d < days_of_years (year + 1 + n + 1 + 10000) → OnDay most (days_of_years (year + 1 + 10000) + d) (date_after n (year + 1) d)) → (t : Bool) → nat_lt days (days_in_year (pos year)) ≡ t → OnDay most (days_of_years (year + 10000) + days) (if t then date_in_year 12 year 1 days else date_after n (year + 1) (days - days_in_year (pos year)))
    by onward true is = of_day year most days (date_in_year 12 year 1 days) (omega arith) (of_year year days (lt_true days (days_in_year (pos year)) is))
    by onward false is =
        let l = lt_false days (days_in_year (pos year)) is in
        let more = years_on year in
        let total : days_of_years (year + 1 + 10000) + (days - days_in_year (pos year)) ≡ days_of_years (year + 10000) + days = omega (arith, l, more) in
        let end : year + 1 + n + 1 + 10000 ≡ year + suc n + 1 + 10000 = omega arith in
        let rest = onward (days - days_in_year (pos year)) (rw (total, end) less) in
        rw total at rest

-- ---- room for all days that a message can name

year_by_least : (y : ℤ) (leap : Bool) → is_leap_year y ≡ leap → 365 ≤ days_in_year y
year_by_least y true e = rw e (omega arith)
year_by_least y false e = rw e (omega arith)

pub years_least : (year n : ℕ) → days_of_years (year + 10000) + 365 * n ≤ days_of_years (year + n + 10000)
years_least year zero = let same : year + 0 + 10000 ≡ year + 10000 = omega arith in rw same (omega arith)
years_least year (suc n) =
    let so_far = years_least year n in
    let more = years_on (year + n) in
    let long = year_by_least (pos (year + n)) (is_leap_year (pos (year + n))) refl in
    let place : year + n + 1 + 10000 ≡ year + suc n + 10000 = omega arith in
    let at = rw place at more in
    omega (arith, so_far, at, long)

-- ---- the calendar's date

no_months_of_1970 : days_of_months (pos 1970) 0 ≡ 0
no_months_of_1970 = no_months (pos 1970)

count_of : (y m d days : ℕ) → 1 ≤ d → days_of_years (y + 10000) + (days_of_months (pos y) (m - 1) + d) ≡ days_of_years (1970 + 10000) + days + 1 → day_count (pos y) m d ≡ day_count (pos 1970) 1 1 + days
unfolding day_count
count_of y m d days first e = let none = no_months_of_1970 in omega (arith, e, none)

apart : (a b days : ℕ) → a ≡ b + days → pos a -ℤ pos b ≡ pos days
apart a b days e = omega (arith, ints, e)

day_number : (y m d days : ℕ) → 1 ≤ d → days_of_years (y + 10000) + (days_of_months (pos y) (m - 1) + d) ≡ days_of_years (1970 + 10000) + days + 1 → days_from_civil (pos y) m d ≡ pos days
unfolding days_from_civil
day_number y m d days first e = apart (day_count (pos y) m d) (day_count (pos 1970) 1 1) days (count_of y m d days first e)

dated : (c : CivilDate) (days : ℕ) → OnDay 9999 (days_of_years (1970 + 10000) + days) c → IsDateOf (pos days) c
dated c days on = (
  record {
    year = pos c.year;
    month = c.month;
    day = c.day;
    year_in = (omega (arith, ints), let w = on.within in omega (arith, ints, w));
    month_in = (on.first, on.last);
    day_in = (on.early, on.late);
  },
  (refl, refl, refl),
  day_number c.year c.month c.day days on.early on.counts,
)

pub dates_are_the_calendars : DatesAreTheCalendars
unfolding civil_date
dates_are_the_calendars (pos n) held =
    let room = years_least 1970 201 in
    let few : n ≤ 65532 = omega (arith, ints, held.1) in
    dated (date_after 200 1970 n) n (on_day 200 1970 9999 n (omega arith) (omega (arith, room, few)))
dates_are_the_calendars (negsuc n) held = absurd (omega (arith, ints, held.0))
