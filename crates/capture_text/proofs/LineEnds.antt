-- Where a line ends.
use Rattle.std.proofs.Common.{◌≡◌, ℕ, zero, suc, ◌≢◌, cond, eqb, ◌+◌, ◌≤◌, List, [], ◌∷◌, length, get_or, take, refl, ap, arith}
use Rattle.std.proofs.lemmas.Grind.{common_steps}
use Rattle.capture_text.specs.Lines.{without_cr}

pub without_cr-cr : (bytes : List ℕ) (n : ℕ) → length bytes ≡ suc n → get_or bytes n 0 ≡ 13 → without_cr bytes ≡ take n bytes
without_cr-cr [] n len last = absurd (omega arith)
without_cr-cr (b ∷ []) zero len last = rw last refl
without_cr-cr (b ∷ []) (suc n) len last = absurd (omega arith)
without_cr-cr (b ∷ c ∷ bytes) zero len last = absurd (omega arith)
without_cr-cr (b ∷ c ∷ bytes) (suc n) len last = ap (λ (w : List ℕ). b ∷ w) (without_cr-cr (c ∷ bytes) n (omega arith) last)

ends_otherwise : (b : ℕ) → b ≢ 13 → cond (eqb b 13) [] (b ∷ []) ≡ b ∷ []
ends_otherwise b other = grind (arith, common_steps)

pub without_cr-other : (bytes : List ℕ) (n : ℕ) → length bytes ≡ suc n → get_or bytes n 0 ≢ 13 → without_cr bytes ≡ bytes
without_cr-other [] n len last = refl
without_cr-other (b ∷ []) zero len last = ends_otherwise b last
without_cr-other (b ∷ []) (suc n) len last = absurd (omega arith)
without_cr-other (b ∷ c ∷ bytes) zero len last = absurd (omega arith)
without_cr-other (b ∷ c ∷ bytes) (suc n) len last = ap (λ (w : List ℕ). b ∷ w) (without_cr-other (c ∷ bytes) n (omega arith) last)

pub without_cr-none : (bytes : List ℕ) → length bytes ≡ 0 → without_cr bytes ≡ bytes
without_cr-none [] len = refl
without_cr-none (b ∷ bytes) len = absurd (omega arith)

pub without_cr-len : (bytes : List ℕ) → length bytes ≤ length (without_cr bytes) + 1
without_cr-len [] = omega arith
without_cr-len (b ∷ []) = omega arith
without_cr-len (b ∷ c ∷ bytes) = omega (arith, without_cr-len (c ∷ bytes))
