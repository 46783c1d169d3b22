-- Going over the bytes that agree.
use Rattle.std.proofs.Common.{◌≡◌, ◌≢◌, ℕ, ◌+◌, ◌<◌, ◌≤◌, List, length, get_or, drop, length-drop, arith}
use Rattle.std.specs.Prelude.{◌==◌}
use Rattle.std.specs.List.{common_prefix_len}
use Rattle.std.proofs.lemmas.Bool.{eq-eqb, ne_eqb}
use Rattle.std.proofs.lemmas.List.Sums.{common_prefix_len-le, common_prefix_len-drop_yes, common_prefix_len-drop_no}

abbrev pub common_len : List ℕ → List ℕ → ℕ
common_len wanted bytes = common_prefix_len (λ b c. b == c) wanted bytes

-- so many bytes agree, and all that agree are these and those that do behind them
pub record Run (wanted bytes : List ℕ) (place : ℕ) : Type 0 where
  pub passed : place + common_len (drop place wanted) (drop place bytes) ≡ common_len wanted bytes
  pub in_wanted : place ≤ length wanted
  pub in_bytes : place ≤ length bytes

pub starts : (wanted bytes : List ℕ) → Run wanted bytes 0
starts wanted bytes = record { passed = omega arith; in_wanted = omega arith; in_bytes = omega arith }

pub goes_on : (wanted bytes : List ℕ) (place : ℕ) → place < length wanted → place < length bytes → get_or wanted place 0 ≡ get_or bytes place 0 → Run wanted bytes place → Run wanted bytes (place + 1)
goes_on wanted bytes place w b e r =
    let one = common_prefix_len-drop_yes (λ (x y : ℕ). x == y) wanted bytes place 0 0 w b (eq-eqb (get_or wanted place 0) (get_or bytes place 0) e) in
    record { passed = omega (arith, one, r.passed); in_wanted = omega (arith, w); in_bytes = omega (arith, b) }

pub differs : (wanted bytes : List ℕ) (place : ℕ) → place < length wanted → place < length bytes → get_or wanted place 0 ≢ get_or bytes place 0 → Run wanted bytes place → place ≡ common_len wanted bytes
differs wanted bytes place w b e r =
    let last = common_prefix_len-drop_no (λ (x y : ℕ). x == y) wanted bytes place 0 0 w b (ne_eqb (get_or wanted place 0) (get_or bytes place 0) e) in
    omega (arith, last, r.passed)

pub wanted_ends : (wanted bytes : List ℕ) (place : ℕ) → length wanted ≤ place → Run wanted bytes place → place ≡ common_len wanted bytes
wanted_ends wanted bytes place w r =
    let most = common_prefix_len-le (λ (x y : ℕ). x == y) (drop place wanted) (drop place bytes) in
    omega (arith, most.0, length-drop place wanted, r.passed)

pub bytes_end : (wanted bytes : List ℕ) (place : ℕ) → length bytes ≤ place → Run wanted bytes place → place ≡ common_len wanted bytes
bytes_end wanted bytes place b r =
    let most = common_prefix_len-le (λ (x y : ℕ). x == y) (drop place wanted) (drop place bytes) in
    omega (arith, most.1, length-drop place bytes, r.passed)
