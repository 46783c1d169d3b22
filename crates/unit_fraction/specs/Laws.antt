-- What is promised of a value that is written in another unit and read back.
use Rattle.std.specs.Prelude.{◌≡◌, ℕ, ◌*◌, ◌^◌, ◌<◌, ◌≤◌, ℤ, pos, ◌*ℤ◌, Bool, Ok}
use Rattle.unit_fraction.specs.declared.decimal.Decimal.{Decimal}
use Rattle.unit_fraction.specs.Round.{round, signed}
use Rattle.unit_fraction.specs.Reading.{read}
use Rattle.unit_fraction.specs.Text.{decimal_text, shows_minus}

-- by p / q, which is at least one, and back by its inverse r / s
abbrev pub IsStable : Type 0
IsStable = (p q r s : ℕ) (x : ℤ) → 0 < q → 0 < s → q ≤ p → p * r ≡ q * s → round (round (x *ℤ pos p) q *ℤ pos r) s ≡ x

-- the same of a count of decimals: a decimal of so many places by num / den, and back to the count by r / s
abbrev pub IsStableDecimal : Type 0
IsStableDecimal = (num den r s places digits : ℕ) (negative : Bool) → 0 < den → 0 < s → 10 ^ places * den ≤ num
    → num * r ≡ 10 ^ places * den * s
    → round (round (signed negative (digits * num)) (10 ^ places * den) *ℤ pos r) s ≡ signed negative digits

-- a decimal as it was written: zero has no minus
abbrev pub written : Bool → ℕ → ℕ → Decimal
written negative digits places = record { negative = shows_minus negative digits; digits = digits; places = places }

-- at most twelve digits that are written are read: the same digits and places, and the sign that was shown
abbrev pub WrittenIsRead : Type 0
WrittenIsRead = (negative : Bool) (digits places : ℕ) → digits < 10 ^ 12 → places < 12
    → read (decimal_text negative digits places) ≡ Ok (written negative digits places)
