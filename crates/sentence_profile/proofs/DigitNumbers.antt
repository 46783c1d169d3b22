-- The numbers that digits write, and their sizes.
use Rattle.std.proofs.Common.{◌≡◌, ℕ, zero, suc, ◌-◌, ◌*◌, ◌<◌, ◌≤◌, ◌^◌, List, [], ◌∷◌, length, get_or, drop, true, refl, arith, ap, sym, ◌∙◌}
use Rattle.std.specs.Prelude.{◌&&◌}
use Rattle.std.specs.Char.{is_ascii_digit}
use Rattle.std.specs.List.{list_all}
use Rattle.std.specs.Str.{all_ascii_digits}
use Rattle.std.proofs.Math.ListN.{drop_of_length-le}
use Rattle.std.proofs.Math.Nat.{pow-le-pow_right}
use Rattle.std.proofs.lemmas.Str.Parse.{digits_value_short}
use Rattle.unit_fraction.specs.Digits.{number_after, number}
use Rattle.unit_fraction.proofs.Text.{own}
use Rattle.unit_fraction.proofs.Number.{number_small, digit_in_range}

pub list_all_digits : (xs : List ℕ) → list_all is_ascii_digit xs ≡ all_ascii_digits xs
list_all_digits [] = refl
list_all_digits (c ∷ cs) = ap (λ b. is_ascii_digit c && b) (list_all_digits cs)

pub all_digits : (ds : List ℕ) → list_all is_ascii_digit ds ≡ true → all_ascii_digits ds ≡ true
all_digits ds h = sym (list_all_digits ds) ∙ h

pub in_range : (ds : List ℕ) (i : ℕ) → list_all is_ascii_digit ds ≡ true → i < length ds → (48 ≤ get_or ds i 0) × (get_or ds i 0 ≤ 57)
in_range ds i h = digit_in_range ds i (all_digits ds h)

pub small : (ds : List ℕ) → list_all is_ascii_digit ds ≡ true → number ds < 10 ^ length ds
small ds h = digits_value_short own ds (length ds) (all_digits ds h) (omega arith)

pub few_small : (ds : List ℕ) → list_all is_ascii_digit ds ≡ true → length ds ≤ 12 → number ds < 10 ^ 12
few_small ds h few = number_small ds (all_digits ds h) few

pub ended : (n total : ℕ) (ds : List ℕ) (i : ℕ) → length ds ≤ i → number_after n (drop i ds) ≡ total → n ≡ total
ended n total ds i past e = rw (drop_of_length-le ds past) at e

pub below_most : (n len most : ℕ) → n < 10 ^ len → len ≤ most → n < 10 ^ most
below_most n len most below few = omega (arith, pow-le-pow_right {n = 10} (omega arith) {i = len} {j = most} few)

-- four decimals at most, with zeros for those that are missing
pub decimals_below : (places part : ℕ) → places ≤ 4 → part < 10 ^ places → part * 10 ^ (4 - places) < 10000
decimals_below zero part short below = omega arith
decimals_below (suc zero) part short below = omega arith
decimals_below (suc (suc zero)) part short below = omega arith
decimals_below (suc (suc (suc zero))) part short below = omega arith
decimals_below (suc (suc (suc (suc zero)))) part short below = omega arith
decimals_below (suc (suc (suc (suc (suc n))))) part short below = absurd (omega arith)
