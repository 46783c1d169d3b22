-- The numbers that digits write, digit by digit.
use Rattle.std.proofs.Common.{◌≡◌, ℕ, ◌+◌, ◌-◌, ◌*◌, ◌<◌, ◌≤◌, ◌^◌, List, [], ◌∷◌, length, get_or, drop, drop-cons, true, add-one, arith}
use Rattle.std.specs.List.{fold, list_all}
use Rattle.std.proofs.lemmas.Str.Parse.{digit_at, digits_value_short}
use Rattle.sentence_text.specs.Byte.{is_digit}
use Rattle.tag_block.specs.Tag.{number}
use Rattle.tag_block.proofs.Written.{own}

-- the number once these digits have come behind it
abbrev pub number_after : ℕ → List ℕ → ℕ
number_after n digits = fold (λ m c. m * 10 + (c - 48)) n digits

pub step : (n : ℕ) (digits : List ℕ) (i total : ℕ) → i < length digits → number_after n (drop i digits) ≡ total
    → number_after (n * 10 + (get_or digits i 0 - 48)) (drop (i + 1) digits) ≡ total
step n digits i total inside e = rw (add-one i) (rw (drop-cons digits i 0 inside) at e)

no_smaller : (n : ℕ) (digits : List ℕ) → n ≤ number_after n digits
no_smaller n [] = omega arith
no_smaller n (c ∷ cs) = omega (arith, no_smaller (n * 10 + (c - 48)) cs)

pub fits : (n : ℕ) (digits : List ℕ) (i total : ℕ) → i < length digits → number_after n (drop i digits) ≡ total → n * 10 + (get_or digits i 0 - 48) ≤ total
fits n digits i total inside e =
    omega (arith, step n digits i total inside e, no_smaller (n * 10 + (get_or digits i 0 - 48)) (drop (i + 1) digits))

pub in_range : (digits : List ℕ) (i : ℕ) → list_all is_digit digits ≡ true → i < length digits → (48 ≤ get_or digits i 0) × (get_or digits i 0 ≤ 57)
in_range digits i all inside = digit_at digits i (own.to digits all) inside

-- four digits write less than ten thousand
pub small : (digits : List ℕ) → list_all is_digit digits ≡ true → length digits ≤ 4 → number digits < 10 ^ 4
small digits all few = digits_value_short own digits 4 all few
