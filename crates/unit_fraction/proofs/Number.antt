-- The number that digits write, digit by digit.
use Rattle.std.proofs.Common.{◌≡◌, ℕ, ◌+◌, ◌-◌, ◌*◌, ◌<◌, ◌≤◌, ◌^◌, List, [], ◌∷◌, ◌++◌, length, get_or, drop, drop-cons, refl, ap, ◌∙◌, add-one, arith, one-add, length-append, take, inl, inr}
use Rattle.std.specs.Prelude.{true}
use Rattle.std.specs.Char.{is_ascii_digit}
use Rattle.std.specs.List.{prefix_len}
use Rattle.std.proofs.lemmas.Bool.{cases_Bool, and_from, and_parts}
use Rattle.std.specs.Str.{all_ascii_digits}
use Rattle.std.proofs.lemmas.Str.Parse.{digits_value_short, digit_at}
use Rattle.unit_fraction.proofs.Text.{own}
use Rattle.unit_fraction.specs.Digits.{number_after, number}
use Rattle.unit_fraction.specs.Reading.{digits_of}

number_after-ge : (n : ℕ) (ds : List ℕ) → n ≤ number_after n ds
number_after-ge n [] = omega arith
number_after-ge n (c ∷ cs) = omega (arith, number_after-ge (n * 10 + (c - 48)) cs)

pub number_step : (n : ℕ) (ds : List ℕ) (i total : ℕ) → i < length ds → number_after n (drop i ds) ≡ total
    → number_after (n * 10 + (get_or ds i 0 - 48)) (drop (i + 1) ds) ≡ total
number_step n ds i total lt e = rw (drop-cons ds i 0, ← add-one) at e

pub number_fits : (n : ℕ) (ds : List ℕ) (i total : ℕ) → i < length ds → number_after n (drop i ds) ≡ total → n * 10 + (get_or ds i 0 - 48) ≤ total
number_fits n ds i total lt e = omega (arith, number_step n ds i total lt e, number_after-ge (n * 10 + (get_or ds i 0 - 48)) (drop (i + 1) ds))

pub number_after_append : (n : ℕ) (xs ys : List ℕ) → number_after n (xs ++ ys) ≡ number_after (number_after n xs) ys
number_after_append n [] ys = refl
number_after_append n (c ∷ cs) ys = number_after_append (n * 10 + (c - 48)) cs ys

-- twelve digits write less than a trillion
pub number_small : (ds : List ℕ) → all_ascii_digits ds ≡ true → length ds ≤ 12 → number ds < 10 ^ 12
number_small ds digits few = digits_value_short own ds 12 digits few

front_step : (c : ℕ) (cs : List ℕ) → is_ascii_digit c ≡ true → digits_of (c ∷ cs) ≡ c ∷ digits_of cs
front_step c cs e =
    let len : prefix_len is_ascii_digit (c ∷ cs) ≡ 1 + prefix_len is_ascii_digit cs = rw e refl in
    ap (λ (n : ℕ). take n (c ∷ cs)) len ∙ rw (one-add (prefix_len is_ascii_digit cs)) refl

pub front_digits : (ds : List ℕ) → all_ascii_digits (digits_of ds) ≡ true
front_digits [] = refl
front_digits (c ∷ cs) = elim (cases_Bool (is_ascii_digit c)) [
  | inl e ↦ rw (front_step c cs e) (and_from (is_ascii_digit c) (all_ascii_digits (digits_of cs)) e (front_digits cs))
  | inr e ↦ rw e refl
]

pub digit_in_range : (ds : List ℕ) (i : ℕ) → all_ascii_digits ds ≡ true → i < length ds → (48 ≤ get_or ds i 0) × (get_or ds i 0 ≤ 57)
digit_in_range ds i digits lt = digit_at ds i (own.to ds digits) lt

pub all_digits_append : (xs ys : List ℕ) → all_ascii_digits xs ≡ true → all_ascii_digits ys ≡ true → all_ascii_digits (xs ++ ys) ≡ true
all_digits_append [] ys h k = k
all_digits_append (c ∷ cs) ys h k =
    let p = and_parts (is_ascii_digit c) (all_ascii_digits cs) h in
    and_from (is_ascii_digit c) (all_ascii_digits (cs ++ ys)) p.0 (all_digits_append cs ys p.1 k)

-- a whole part and decimals behind it
pub both_small : (whole part : List ℕ) → all_ascii_digits whole ≡ true → all_ascii_digits part ≡ true → length whole + length part ≤ 12
    → number_after (number whole) part < 10 ^ 12
both_small whole part w p few =
    rw (← number_after_append 0 whole part) (number_small (whole ++ part) (all_digits_append whole part w p) (omega (arith, length-append whole part)))
