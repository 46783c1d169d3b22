-- The calendar of the standard library of dates and that of the definitions are one.
use Rattle.std.proofs.Common.{◌≡◌, ℕ, ◌≤◌, Bool, true, false, Some, None, ℤ, pos, negsuc, refl, sym, ap, subst, ◌∙◌, arith, inl, inr}
use Rattle.std.specs.Prelude.{nat_le}
use Rattle.std.proofs.lemmas.Bool.{both_ways, cases_Bool, leb-true, and_parts, le-leb}
use Rattle.std.proofs.lemmas.Bool.Decides.{nat_tests}
use Rattle.std.proofs.lemmas.Int.{ints}
use Rattle.jiff_core.specs.declared.civil.date.Date.{Date}
use Rattle.jiff_core.specs.Calendar.{IsDate, IsYear, days_in_month}
use Rattle.jiff_core.specs.Date.{IsYmd, epoch_day}
use Rattle.readings.specs.Ranges.{Holds, date as date_range}
use Rattle.sentence_profile.specs.Calendar.{is_year, is_month, is_day, date_if, date_of}
use Rattle.sentence_profile.specs.Columns.{day_number, day_of, day_within}

none_if : (year month day : ℕ) (y m d : Bool) (ey : is_year year ≡ y) (em : is_month month ≡ m) (ed : is_day year month day ≡ d)
    → (IsDate (pos year) (pos month) (pos day) → ⊥) → day_of (date_if year month day y m d ey em ed) ≡ None
none_if year month day true true true ey em ed never =
    let mp = and_parts (nat_le 1 month) (nat_le month 12) em in
    let dp = and_parts (nat_le 1 day) (nat_le day (days_in_month (pos year) month)) ed in
    let y : year ≤ 9999 = leb-true year 9999 ey in
    let low : 1 ≤ month = leb-true 1 month mp.0 in
    let high : month ≤ 12 = leb-true month 12 mp.1 in
    let first : 1 ≤ day = leb-true 1 day dp.0 in
    let last : day ≤ days_in_month (pos year) month = leb-true day (days_in_month (pos year) month) dp.1 in
    absurd (never ((omega (arith, ints), omega (arith, ints)), (omega (arith, ints), omega (arith, ints)), (omega (arith, ints), omega (arith, ints))))
none_if year month day true true false ey em ed never = refl
none_if year month day true false d ey em ed never = refl
none_if year month day false m d ey em ed never = refl

-- the tests hold of a date
record Tests (year month day : ℕ) : Type 0 where
  year_is : is_year year ≡ true
  month_is : is_month month ≡ true
  day_is : is_day year month day ≡ true

same_pos : (a b : ℕ) → pos a ≡ pos b → a ≡ b
same_pos a b e = cc

tests : (year month day : ℕ) (date : Date) → IsYmd (pos year) (pos month) (pos day) date → Tests year month day
tests year month day date is =
    let m : date.month ≡ month = same_pos date.month month is.1 in
    let d : date.day ≡ day = same_pos date.day day is.2 in
    let most : days_in_month date.year date.month ≡ days_in_month (pos year) month = ap (λ (y : ℤ). days_in_month y date.month) is.0 ∙ ap (days_in_month (pos year)) m in
    let in_year : IsYear (pos year) = let P : ℤ → Type 0 = λ y. IsYear y in subst P is.0 date.year_in in
    let month_in = date.month_in in
    let day_in = date.day_in in
    record { year_is = grind (arith, ints, nat_tests); month_is = grind (arith, nat_tests); day_is = grind (arith, nat_tests) }

-- the day number where there is the date
dated_if : (year month day : ℕ) (date : Date) (y m d : Bool) (ey : is_year year ≡ y) (em : is_month month ≡ m) (ed : is_day year month day ≡ d)
    → IsYmd (pos year) (pos month) (pos day) date → Tests year month day → day_of (date_if year month day y m d ey em ed) ≡ day_within (epoch_day date)
dated_if year month day date true true true ey em ed is t =
    let m : date.month ≡ month = same_pos date.month month is.1 in
    let d : date.day ≡ day = same_pos date.day day is.2 in
    rw (is.0, m, d) refl
dated_if year month day date true true false ey em ed is t = absurd (both_ways (is_day year month day) ed t.day_is)
dated_if year month day date true false d ey em ed is t = absurd (both_ways (is_month month) em t.month_is)
dated_if year month day date false m d ey em ed is t = absurd (both_ways (is_year year) ey t.year_is)

pub no_date : (year month day : ℕ) → (IsDate (pos year) (pos month) (pos day) → ⊥) → None ≡ day_number year month day
unfolding day_number date_of
no_date year month day never = sym (none_if year month day (is_year year) (is_month month) (is_day year month day) refl refl refl never)

pub dated : (year month day : ℕ) (date : Date) → IsYmd (pos year) (pos month) (pos day) date → day_number year month day ≡ day_within (epoch_day date)
unfolding day_number date_of
dated year month day date is = dated_if year month day date (is_year year) (is_month month) (is_day year month day) refl refl refl is (tests year month day date is)

pub inside : (day : ℤ) → Holds date_range day → Some day ≡ day_within day
inside (pos n) h = let e : nat_le n 65532 ≡ true = le-leb n 65532 (omega (arith, ints, h.1)) in rw e refl
inside (negsuc n) h = absurd (omega (arith, ints, h.0))

pub outside : (day : ℤ) → (Holds date_range day → ⊥) → None ≡ day_within day
outside (pos n) h = elim (cases_Bool (nat_le n 65532)) [
  | inl e ↦ absurd (h (let le : n ≤ 65532 = leb-true n 65532 e in (omega (arith, ints), omega (arith, ints))))
  | inr e ↦ rw e refl
]
outside (negsuc n) h = refl

-- the same of the signed numbers that the library takes
pub no_date_of : (year month day : ℕ) (y m d : ℤ) → y ≡ pos year → m ≡ pos month → d ≡ pos day → (IsDate y m d → ⊥) → None ≡ day_number year month day
no_date_of year month day y m d ey em ed never = no_date year month day (rw (ey, em, ed) at never)

pub dated_of : (year month day : ℕ) (y m d : ℤ) (date : Date) → y ≡ pos year → m ≡ pos month → d ≡ pos day → IsYmd y m d date
    → day_within (epoch_day date) ≡ day_number year month day
dated_of year month day y m d date ey em ed is = sym (dated year month day date (rw (ey, em, ed) at is))
