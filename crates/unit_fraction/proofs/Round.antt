-- Rounding by a sign and one division gives the one nearest whole number.
use Rattle.std.proofs.Common.{◌≡◌, ℕ, zero, suc, ◌+◌, ◌*◌, ◌<◌, ◌≤◌, refl, sym, ap, subst, ◌∙◌, arith}
use lib.Signed.{lt_z}
use Rattle.std.specs.Prelude.{ℤ, pos, negsuc, neg_ℤ, Bool, true, false, ◌-ℤ◌, ◌*ℤ◌, unsigned_abs}
use Rattle.std.proofs.lemmas.Int.{ints, unsigned_abs-mul}
use Rattle.std.proofs.lemmas.Nat.{mul-le}
use Rattle.unit_fraction.specs.Round.{distance, IsRound, nearest, round, signed}
use Rattle.unit_fraction.proofs.Nearest.{nearest_between, nearest_le}

triangle : (x y : ℤ) → unsigned_abs y ≤ unsigned_abs x + unsigned_abs (x -ℤ y)
triangle x y = grind (arith, ints)

pub neg-mul : (q d : ℕ) → neg_ℤ (pos q) *ℤ pos d ≡ neg_ℤ (pos (q * d))
neg-mul zero d = grind arith
neg-mul (suc q) d = refl

near_pos : (n x d : ℕ) → 2 * x ≤ 2 * n + d → 2 * n + d < 2 * x + 2 * d → 2 * unsigned_abs (pos n -ℤ pos x) ≤ d
near_pos n x d low high = grind (arith, ints)

near_neg : (n x d : ℕ) → 2 * x ≤ 2 * suc n + d → 2 * suc n + d < 2 * x + 2 * d → 2 * unsigned_abs (negsuc n -ℤ neg_ℤ (pos x)) ≤ d
near_neg n x d low high = grind (arith, ints)

abs-neg : (q : ℕ) → unsigned_abs (neg_ℤ (pos q)) ≡ q
abs-neg zero = refl
abs-neg (suc q) = refl

abs-round : (n : ℤ) (d : ℕ) → unsigned_abs (round n d) ≡ nearest (unsigned_abs n) d
abs-round (pos n) d = refl
abs-round (negsuc n) d = abs-neg (nearest (suc n) d)

round_near : (n : ℤ) (d : ℕ) → 0 < d → 2 * distance n d (round n d) ≤ d
round_near (pos n) d p =
    let b = nearest_between n d p in
    near_pos n (nearest n d * d) d b.low b.high
round_near (negsuc n) d p =
    let b = nearest_between (suc n) d p in
    rw neg-mul (near_neg n (nearest (suc n) d * d) d b.low b.high)

-- a * d below (b + 1) * d
le_from_products : (a b d : ℕ) → a * d < b * d + d → a ≤ b
le_from_products a b d h = grind arith

round_further : (n : ℤ) (d : ℕ) → 0 < d → (p : ℤ) → 2 * distance n d p ≤ d → unsigned_abs p ≤ unsigned_abs (round n d)
round_further n d positive p h =
    let b = nearest_between (unsigned_abs n) d positive in
    rw abs-round (le_from_products (unsigned_abs p) (nearest (unsigned_abs n) d) d (omega (arith, triangle n (p *ℤ pos d), unsigned_abs-mul p (pos d), b.high)))

pub round_is : (n : ℤ) (d : ℕ) → 0 < d → IsRound n d (round n d)
round_is n d positive = record { near = round_near n d positive; further = round_further n d positive }

-- only one whole number is nearest
apart : (n : ℤ) (x d : ℕ) → 0 < d → d ≤ x → 2 * unsigned_abs (n -ℤ pos x) ≤ d → 2 * unsigned_abs (n -ℤ neg_ℤ (pos x)) ≤ d → ⊥
apart n zero d positive le near far = omega arith
apart (pos n) (suc x) d positive le near far = omega (arith, ints)
apart (negsuc n) (suc x) d positive le near far = omega (arith, ints)

negative_is_other : (n : ℤ) (a b d : ℕ) → 0 < d → a ≡ suc b → 2 * distance n d (pos a) ≤ d → 2 * distance n d (negsuc b) ≤ d → ⊥
negative_is_other n a b d positive e near far =
    let least : d ≤ suc b * d = omega (arith, mul-le 1 d (suc b) d (omega arith) (omega arith)) in
    apart n (suc b * d) d positive least (subst (λ (k : ℕ). 2 * unsigned_abs (n -ℤ pos (k * d)) ≤ d) e near) far

pub only_round : (n : ℤ) (d : ℕ) (p q : ℤ) → 0 < d → IsRound n d p → IsRound n d q → p ≡ q
only_round n d (pos a) (pos b) positive p q = ap pos (omega (arith, p.further (pos b) q.near, q.further (pos a) p.near))
only_round n d (pos a) (negsuc b) positive p q = absurd (negative_is_other n a b d positive (omega (arith, p.further (negsuc b) q.near, q.further (pos a) p.near)) p.near q.near)
only_round n d (negsuc a) (pos b) positive p q = absurd (negative_is_other n b a d positive (omega (arith, p.further (pos b) q.near, q.further (negsuc a) p.near)) q.near p.near)
only_round n d (negsuc a) (negsuc b) positive p q = ap negsuc (omega (arith, p.further (negsuc b) q.near, q.further (negsuc a) p.near))

-- how the code gets at the sign
nearest-zero : (d : ℕ) → 0 < d → nearest 0 d ≡ 0
nearest-zero d positive = omega (arith, nearest_le 0 d positive)

pub round-neg : (m d : ℕ) → 0 < d → round (neg_ℤ (pos m)) d ≡ neg_ℤ (pos (nearest m d))
round-neg zero d positive = rw (nearest-zero d positive) refl
round-neg (suc m) d positive = refl

pub not_below_zero : (a : ℕ) → lt_z (pos a) (pos 0) ≡ false
not_below_zero a = grind (arith, ints)

pub round_product : (raw : ℤ) (num d : ℕ) → 0 < d → round (raw *ℤ pos num) d ≡ signed (lt_z raw (pos 0)) (nearest (unsigned_abs raw * num) d)
round_product (pos a) num d positive = rw (not_below_zero a) refl
round_product (negsuc a) num d positive = round-neg (suc a * num) d positive

pub is_round : (n q : ℤ) (d : ℕ) → 0 < d → q ≡ round n d → IsRound n d q
is_round n q d positive e = rw e (round_is n d positive)

pub is_only_round : (n q : ℤ) (d : ℕ) → 0 < d → q ≡ round n d → (p : ℤ) → IsRound n d p → p ≡ q
is_only_round n q d positive e p h = only_round n d p (round n d) positive h (round_is n d positive) ∙ sym e

pub round_signed : (negative : Bool) (size d : ℕ) → 0 < d → round (signed negative size) d ≡ signed negative (nearest size d)
round_signed true size d positive = round-neg size d positive
round_signed false size d positive = refl
