-- A number as a decimal without decimals, and how long it is.
use Rattle.std.proofs.Common.{◌≡◌, ℕ, ◌/◌, ◌^◌, ◌<◌, ◌≤◌, false, length, ap, ◌∙◌, arith}
use Rattle.std.specs.Fmt.{decimal}
use Rattle.std.proofs.lemmas.List.{append-nil}
use Rattle.std.proofs.lemmas.Fmt.{length-decimal-le_wide}
use Rattle.unit_fraction.specs.Text.{decimal_text}

pub plain_decimal : (n : ℕ) → decimal_text false n 0 ≡ decimal n
plain_decimal n =
    let one : n / 10 ^ 0 ≡ n = omega arith in
    append-nil (decimal (n / 10 ^ 0)) ∙ ap decimal one

pub few_digits : (n : ℕ) → n < 2 ^ 64 → length (decimal n) ≤ 20
few_digits n fits = length-decimal-le_wide 20 n (omega arith) (omega arith) (omega arith)
