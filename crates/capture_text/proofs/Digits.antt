-- Decimal digits, and the number that they write.
use Rattle.std.proofs.Common.{◌≡◌, ℕ, suc, ◌+◌, ◌-◌, ◌*◌, ◌<◌, ◌≤◌, ◌^◌, true, List, [], ◌∷◌, length, get_or, take, ◌∙◌, sym, arith}
use Rattle.std.specs.Char.{is_ascii_digit}
use Rattle.std.specs.List.{list_all, prefix_len}
use Rattle.std.proofs.lemmas.Bool.{and_parts}
use Rattle.std.proofs.lemmas.List.{length-take}
use Rattle.std.proofs.lemmas.List.Sums.{prefix_len-le-length}
use Rattle.std.proofs.lemmas.Nat.{mul-le}
use Rattle.std.proofs.Math.Nat.{pow-le-pow_right}
use Rattle.unit_fraction.specs.Digits.{number_after}
use Rattle.unit_fraction.proofs.Number as number
use Rattle.capture_text.proofs.Numbers.{all_digits}

pub digit_in_range : (digits : List ℕ) (i : ℕ) → list_all is_ascii_digit digits ≡ true → i < length digits → (48 ≤ get_or digits i 0) × (get_or digits i 0 ≤ 57)
digit_in_range digits i h lt = number.digit_in_range digits i (sym (all_digits digits) ∙ h) lt

digit_value : (c : ℕ) → is_ascii_digit c ≡ true → c - 48 ≤ 9
digit_value c e = grind arith

ten_times : (total n d x : ℕ) → total < (n * 10 + d + 1) * x → d ≤ 9 → total < (n + 1) * (x * 10)
ten_times total n d x lt le =
    let more = mul-le (n * 10 + d + 1) x ((n + 1) * 10) x (omega arith) (omega arith) in
    let same : (n + 1) * 10 * x ≡ (n + 1) * (x * 10) = omega arith in
    omega (arith, more, same)

number_bound : (before : ℕ) (digits : List ℕ) → list_all is_ascii_digit digits ≡ true → number_after before digits < (before + 1) * 10 ^ length digits
number_bound before [] h = omega arith
number_bound before (c ∷ cs) h =
    let p = and_parts (is_ascii_digit c) (list_all is_ascii_digit cs) h in
    let power : 10 ^ suc (length cs) ≡ 10 ^ length cs * 10 = omega arith in
    rw power (ten_times (number_after (before * 10 + (c - 48)) cs) before (c - 48) (10 ^ length cs) (number_bound (before * 10 + (c - 48)) cs p.1) (digit_value c p.0))

below : (before bound most : ℕ) (digits : List ℕ) → before < bound → list_all is_ascii_digit digits ≡ true → length digits ≤ most → number_after before digits < bound * 10 ^ most
below before bound most digits lt h few =
    omega (arith, number_bound before digits h, mul-le (before + 1) (10 ^ length digits) bound (10 ^ most) (omega arith) (pow-le-pow_right (omega arith) few))

-- ten digits, and six behind them

pub seconds_fit : (digits : List ℕ) → list_all is_ascii_digit digits ≡ true → length digits ≤ 10 → number_after 0 digits < 10 ^ 10
seconds_fit digits h few = omega (arith, below 0 1 10 digits (omega arith) h few)

pub micros_fit : (seconds : ℕ) (text : List ℕ) → seconds < 10 ^ 10 → list_all is_ascii_digit (take 6 text) ≡ true → number_after seconds (take 6 text) < 2 ^ 64
micros_fit seconds text lt h = omega (arith, below seconds (10 ^ 10) 6 (take 6 text) lt h (omega (arith, length-take 6 text)))

pub ten_fit : (text : List ℕ) → list_all is_ascii_digit (take 10 text) ≡ true → number_after 0 (take 10 text) < 10 ^ 10
ten_fit text h = seconds_fit (take 10 text) h (omega (arith, length-take 10 text))

pub few_counted : (text : List ℕ) → prefix_len is_ascii_digit (take 10 text) ≤ 10
few_counted text = omega (arith, prefix_len-le-length is_ascii_digit (take 10 text), length-take 10 text)
