-- A whole number as a decimal without decimals, and how long it is.
use Rattle.std.proofs.Common.{◌≡◌, ℕ, ◌/◌, ◌^◌, ◌<◌, ◌≤◌, false, length, ap, ◌∙◌, arith}
use Rattle.std.specs.Fmt.{decimal}
use Rattle.std.proofs.lemmas.List.{append-nil}
use Rattle.std.specs.Prelude.{List, Result, Ok, Err}
use Rattle.std.specs.Str.Parse.{ParsesUnsigned}
use Rattle.std.proofs.lemmas.Fmt.{length-decimal-le, length-decimal-le_wide, parse-decimal}
use Rattle.unit_fraction.specs.Text.{decimal_text}

pub plain_decimal : (n : ℕ) → decimal_text false n 0 ≡ decimal n
plain_decimal n =
    let one : n / 10 ^ 0 ≡ n = omega arith in
    append-nil (decimal (n / 10 ^ 0)) ∙ ap decimal one

-- ---- how many digits a number has, by its type

pub digits_of_a_byte : (n : ℕ) → n < 256 → length (decimal n) ≤ 3
digits_of_a_byte n fits = length-decimal-le 3 n (omega arith) (omega arith) (omega arith)

pub digits_of_a_short : (n : ℕ) → n < 65536 → length (decimal n) ≤ 5
digits_of_a_short n fits = length-decimal-le 5 n (omega arith) (omega arith) (omega arith)

pub digits_of_a_word : (n : ℕ) → n < 2 ^ 32 → length (decimal n) ≤ 10
digits_of_a_word n fits = length-decimal-le 10 n (omega arith) (omega arith) (omega arith)

pub digits_of_a_long : (n : ℕ) → n < 2 ^ 64 → length (decimal n) ≤ 20
digits_of_a_long n fits = length-decimal-le_wide 20 n (omega arith) (omega arith) (omega arith)

-- ---- what is read of a number that is written

pub parsed : {E : Type 0} (n : ℕ) (text : List ℕ) (result : Result ℕ E) → n < 2 ^ 64 → text ≡ decimal n → ParsesUnsigned 64 10 text result → result ≡ Ok n
parsed n text result fits written parses = parse-decimal 64 n text result fits fits written parses

pub same_ok : {E : Type 0} (m n : ℕ) (result : Result ℕ E) → result ≡ Ok m → result ≡ Ok n → m ≡ n
same_ok m n result is also = cc

pub never_err : {E : Type 0} (e : E) (n : ℕ) → ◌≡◌ {A = Result ℕ E} (Err e) (Ok n) → ⊥
never_err e n same = absurd cc
