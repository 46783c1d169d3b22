-- The numbers that digits write, and their sizes.
use Rattle.std.proofs.Common.{◌≡◌, ℕ, ◌+◌, ◌-◌, ◌*◌, ◌<◌, ◌≤◌, ◌^◌, List, [], ◌∷◌, length, get_or, drop, true, refl, ap, sym, ◌∙◌}
use Rattle.std.specs.Prelude.{◌&&◌}
use Rattle.std.specs.List.{list_all}
use Rattle.std.specs.Str.{all_ascii_digits}
use Rattle.std.proofs.lemmas.Str.Parse.{digits_value_short}
use Rattle.sentence_text.specs.Byte.{is_digit}
use Rattle.unit_fraction.specs.Digits.{number_after, number}
use Rattle.unit_fraction.proofs.Text.{own}
use Rattle.unit_fraction.proofs.Number.{number_step, number_fits, digit_in_range}

pub step : (n : ℕ) (ds : List ℕ) (i total : ℕ) → i < length ds → number_after n (drop i ds) ≡ total
    → number_after (n * 10 + (get_or ds i 0 - 48)) (drop (i + 1) ds) ≡ total
step = number_step

pub fits : (n : ℕ) (ds : List ℕ) (i total : ℕ) → i < length ds → number_after n (drop i ds) ≡ total → n * 10 + (get_or ds i 0 - 48) ≤ total
fits = number_fits

same : (xs : List ℕ) → list_all is_digit xs ≡ all_ascii_digits xs
same [] = refl
same (c ∷ cs) = ap (λ b. is_digit c && b) (same cs)

all_digits : (xs : List ℕ) → list_all is_digit xs ≡ true → all_ascii_digits xs ≡ true
all_digits xs h = sym (same xs) ∙ h

pub in_range : (ds : List ℕ) (i : ℕ) → list_all is_digit ds ≡ true → i < length ds → (48 ≤ get_or ds i 0) × (get_or ds i 0 ≤ 57)
in_range ds i h = digit_in_range ds i (all_digits ds h)

-- seven digits write less than ten millions
pub small : (ds : List ℕ) → list_all is_digit ds ≡ true → length ds ≤ 7 → number ds < 10 ^ 7
small ds h few = digits_value_short own ds 7 (all_digits ds h) few
