-- Numbers and their decimal digits.
use Rattle.std.proofs.Common.{◌≡◌, ℕ, zero, suc, ◌+◌, ◌/◌, ◌%◌, ◌^◌, ◌<◌, ◌≤◌, false, List, [], ◌∷◌, length, refl, ap, arith, length-append}
use Rattle.std.specs.Fmt.{decimal}
use Rattle.std.specs.Char.{is_ascii_digit}
use Rattle.std.specs.Str.{all_ascii_digits}
use Rattle.std.specs.List.{list_all}
use Rattle.std.specs.Prelude.{◌&&◌}
use Rattle.std.proofs.lemmas.List.{append-nil}
use Rattle.std.proofs.lemmas.Fmt.{length-decimal-le_wide}
use Rattle.std.proofs.Math.Nat.{div-le_self}
use Rattle.unit_fraction.specs.Text.{decimals, decimal_text}

-- ---- written

pub length-decimals : (k n : ℕ) → length (decimals k n) ≡ k
length-decimals zero n = refl
length-decimals (suc k) n = omega (arith, length-append (decimals k (n / 10)) ((48 + n % 10) ∷ []), length-decimals k (n / 10))

pub length_decimal : (n : ℕ) → n < 2 ^ 64 → length (decimal n) ≤ 20
length_decimal n fits = length-decimal-le_wide 20 n (omega arith) (omega arith) (omega arith)

whole_len : (n places : ℕ) → n < 2 ^ 64 → length (decimal (n / 10 ^ places)) ≤ 20
whole_len n places fits =
    let small : n / 10 ^ places < 2 ^ 64 = omega (arith, div-le_self n (10 ^ places)) in
    length_decimal (n / 10 ^ places) small

pub decimal_len : (n places : ℕ) → n < 2 ^ 64 → places ≤ 6 → length (decimal_text false n places) ≤ 27
decimal_len n zero fits few = omega (arith, whole_len n 0 fits, ap length (append-nil (decimal (n / 10 ^ 0))))
decimal_len n (suc k) fits few =
    let whole = decimal (n / 10 ^ suc k) in
    omega (arith, whole_len n (suc k) fits, length-append whole (46 ∷ decimals (suc k) n), length-decimals (suc k) n)

-- ---- read

pub all_digits : (ds : List ℕ) → list_all is_ascii_digit ds ≡ all_ascii_digits ds
all_digits [] = refl
all_digits (c ∷ cs) = ap (λ b. is_ascii_digit c && b) (all_digits cs)
