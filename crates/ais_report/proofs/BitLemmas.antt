-- A number of so many bits is that of its bits.
use Rattle.std.proofs.Common.{◌≡◌, ℕ, zero, suc, ◌+◌, ◌-◌, ◌*◌, ◌/◌, ◌%◌, ◌^◌, ◌<◌, ◌≤◌, Bool, true, false, ◌==◌, List, [], ◌∷◌, ◌++◌, length, take, drop, refl, sym, ap, subst, ◌∙◌, append_assoc, length-append, drop-drop, arith}
use Rattle.std.specs.Int.{bit_at}
use Rattle.std.proofs.lemmas.Nat.{pow_pos}
use Rattle.std.proofs.Math.Nat.{pow-le-pow_right, mod-eq_of_lt}
use Rattle.std.proofs.Math.Arith.{mod-mul}
use Rattle.ais_report.specs.Bits.{bits_of, bit, number_after, number_of}

-- ---- one more bit

pub next_below : (n k : ℕ) (b : Bool) → n < 2 ^ k → 2 * n + bit b < 2 ^ suc k
next_below n k true below = grind arith
next_below n k false below = grind arith

pub below_all : (n k w : ℕ) → n < 2 ^ k → k ≤ w → n < 2 ^ w
below_all n k w below le = omega (arith, pow-le-pow_right {n = 2} (omega arith) le, below)

-- ---- bits of a number

pub first_bit : (w n : ℕ) → 0 < w → bits_of w n ≡ (bit_at n (w - 1) == 1) ∷ bits_of (w - 1) n
first_bit zero n some = absurd (omega (arith, some))
first_bit (suc w) n some = let e : w ≡ suc w - 1 = omega arith in ap (λ k. (bit_at n k == 1) ∷ bits_of k n) e

pub length-bits : (w n : ℕ) → length (bits_of w n) ≡ w
length-bits zero n = refl
length-bits (suc w) n = ap suc (length-bits w n)

bit_is : (n w : ℕ) → bit (bit_at n w == 1) ≡ n / 2 ^ w % 2
bit_is n w = grind arith

first_digit : (acc p q r m : ℕ) → m ≡ q * p + r → (2 * acc + q) * p + r ≡ acc * (2 * p) + m
first_digit acc p q r m e = grind (arith, e)

with_digit : (acc w n : ℕ) → (2 * acc + n / 2 ^ w % 2) * 2 ^ w + n % 2 ^ w ≡ acc * 2 ^ suc w + n % 2 ^ suc w
with_digit acc w n =
    let twice : 2 * 2 ^ w ≡ 2 ^ suc w = grind arith in
    subst (λ (k : ℕ). (2 * acc + n / 2 ^ w % 2) * 2 ^ w + n % 2 ^ w ≡ acc * k + n % k) twice
    (first_digit acc (2 ^ w) (n / 2 ^ w % 2) (n % 2 ^ w) (n % (2 * 2 ^ w)) (mod-mul n {m = 2} {c = 2 ^ w} (omega arith) (pow_pos w)))

number_of_bits_after : (acc w n : ℕ) → number_after acc (bits_of w n) ≡ acc * 2 ^ w + n % 2 ^ w
number_of_bits_after acc zero n = grind arith
number_of_bits_after acc (suc w) n =
    number_of_bits_after (2 * acc + bit (bit_at n w == 1)) w n
    ∙ (ap (λ x. (2 * acc + x) * 2 ^ w + n % 2 ^ w) (bit_is n w) ∙ with_digit acc w n)

pub number_of_bits : (w n : ℕ) → n < 2 ^ w → number_of (bits_of w n) ≡ n
number_of_bits w n below = number_of_bits_after 0 w n ∙ omega (arith, mod-eq_of_lt below)

-- ---- bits among others

pub take_bits : (w n : ℕ) (rest : List Bool) → take w (bits_of w n ++ rest) ≡ bits_of w n
take_bits zero n rest = refl
take_bits (suc w) n rest = ap (λ bs. (bit_at n w == 1) ∷ bs) (take_bits w n rest)

drop_all : (w n : ℕ) (rest : List Bool) → drop w (bits_of w n ++ rest) ≡ rest
drop_all zero n rest = refl
drop_all (suc w) n rest = drop_all w n rest

pub drop_bits : (w k n : ℕ) (rest : List Bool) → drop (w + k) (bits_of w n ++ rest) ≡ drop k rest
drop_bits w k n rest = sym (drop-drop k w (bits_of w n ++ rest)) ∙ ap (λ bs. drop k bs) (drop_all w n rest)

-- ---- a bit less to write

pub one_less : (out now whole : List Bool) (b : Bool) (w n : ℕ) → 0 < w → now ≡ out ++ b ∷ [] → b ≡ (bit_at n (w - 1) == 1)
    → out ++ bits_of w n ≡ whole → now ++ bits_of (w - 1) n ≡ whole
one_less out now whole b w n some pushed is all =
    ap (λ bs. bs ++ bits_of (w - 1) n) pushed
    ∙ (append_assoc out (b ∷ []) (bits_of (w - 1) n)
    ∙ (ap (λ x. out ++ x ∷ bits_of (w - 1) n) is ∙ (ap (λ bs. out ++ bs) (sym (first_bit w n some)) ∙ all)))

pub one_longer : (out now : List Bool) (b : Bool) → now ≡ out ++ b ∷ [] → length now ≡ length out + 1
one_longer out now b pushed = ap length pushed ∙ length-append out (b ∷ [])
