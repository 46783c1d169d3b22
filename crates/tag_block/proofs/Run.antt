-- Going over the bytes that pass a test, and their sum.
use Rattle.std.proofs.Common.{◌≡◌, ℕ, suc, ◌+◌, ◌<◌, ◌≤◌, Bool, true, false, List, ◌∷◌, length, get_or, take, drop, drop-cons, sym, ap, ◌∙◌, refl, add-one, arith}
use Rattle.std.specs.Prelude.{bit_xor}
use Rattle.std.specs.List.{fold, prefix_len}
use Rattle.std.proofs.lemmas.List.Sums.{fold_more, prefix_len-drop_all, prefix_len-drop_no}

-- so many bytes are passed, and with them the sum before has become this one
pub record Run (p : ℕ → Bool) (bytes : List ℕ) (before count sum : ℕ) : Type 0 where
  pub passed : count + prefix_len p (drop count bytes) ≡ prefix_len p bytes
  pub sum_is : sum ≡ fold bit_xor before (take count bytes)

prefix_step : (p : ℕ → Bool) (c : ℕ) (cs : List ℕ) → p c ≡ true → prefix_len p (c ∷ cs) ≡ 1 + prefix_len p cs
prefix_step p c cs e = rw e refl

pub run_starts : (p : ℕ → Bool) (bytes : List ℕ) (before : ℕ) → Run p bytes before 0 before
run_starts p bytes before = record { passed = omega arith; sum_is = refl }

pub run_goes_on : (p : ℕ → Bool) (bytes : List ℕ) (before count sum : ℕ) → count < length bytes → p (get_or bytes count 0) ≡ true
    → Run p bytes before count sum → Run p bytes before (count + 1) (bit_xor sum (get_or bytes count 0))
run_goes_on p bytes before count sum lt e r =
    let front : prefix_len p (drop count bytes) ≡ 1 + prefix_len p (drop (count + 1) bytes) =
    ap (prefix_len p) (drop-cons bytes count 0 lt) ∙ prefix_step p (get_or bytes count 0) (drop (suc count) bytes) e ∙ ap (λ (n : ℕ). 1 + prefix_len p (drop n bytes)) (sym (add-one count)) in
    record { passed = omega (arith, front, r.passed); sum_is = ap (λ (x : ℕ). bit_xor x (get_or bytes count 0)) r.sum_is ∙ sym (fold_more bit_xor before bytes count 0 lt) }

pub run_stops : (p : ℕ → Bool) (bytes : List ℕ) (before count sum : ℕ) → count < length bytes → p (get_or bytes count 0) ≡ false
    → Run p bytes before count sum → (count ≡ prefix_len p bytes) × (sum ≡ fold bit_xor before (take count bytes))
run_stops p bytes before count sum lt e r = (omega (arith, prefix_len-drop_no p bytes count 0 lt e, r.passed), r.sum_is)

pub run_ends : (p : ℕ → Bool) (bytes : List ℕ) (before count sum : ℕ) → length bytes ≤ count → Run p bytes before count sum
    → (count ≡ prefix_len p bytes) × (sum ≡ fold bit_xor before (take count bytes))
run_ends p bytes before count sum le r = (omega (arith, prefix_len-drop_all p bytes count le, r.passed), r.sum_is)
