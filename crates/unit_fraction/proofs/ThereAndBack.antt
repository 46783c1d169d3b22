-- There and back by a fraction and its inverse.
use Rattle.std.proofs.Common.{◌≡◌, ℕ, ◌+◌, ◌*◌, ◌<◌, ◌≤◌, ◌^◌, Bool, true, false, refl, sym, ap, subst, ◌∙◌, arith, inl, inr}
use lib.Signed.{lt_z}
use Rattle.std.specs.Prelude.{ℤ, pos, negsuc, ◌*ℤ◌, unsigned_abs}
use Rattle.std.proofs.lemmas.Bool.{cases_lt}
use Rattle.std.proofs.lemmas.Nat.{mul-le}
use Rattle.unit_fraction.specs.Round.{nearest, round, signed}
use Rattle.unit_fraction.specs.Laws.{IsStable, IsStableDecimal}
use Rattle.unit_fraction.proofs.Nearest.{IsBetween, nearest_between, product_positive}
use Rattle.unit_fraction.proofs.Round.{round_signed, neg-mul, not_below_zero}

-- a * d below b * d
less_from_products : (a b d : ℕ) → a * d < b * d → a < b
less_from_products a b d h = elim (cases_lt a b) [
  | inl less ↦ less
  | inr le ↦ absurd (omega (arith, mul-le b d a d le (omega arith)))
]

-- only one whole number is between
only_between : (n d x y : ℕ) → IsBetween n d x → IsBetween n d y → x ≤ y
only_between n d x y a b = omega (arith, less_from_products x (y + 1) d (omega (arith, a.low, b.high)))

nearest_is : (n d x : ℕ) → 0 < d → IsBetween n d x → nearest n d ≡ x
nearest_is n d x positive h =
    let b = nearest_between n d positive in
    omega (arith, only_between n d (nearest n d) x b h, only_between n d x (nearest n d) h b)

smaller : (p q r s : ℕ) → 0 < q → q ≤ p → p * r ≡ q * s → r ≤ s
smaller p q r s positive le e = omega (arith, less_from_products r (s + 1) q (omega (arith, mul-le q r p r le (omega arith), e)))

-- where both fractions are one
equal : (p q r s : ℕ) → 0 < s → p * r ≡ q * s → r ≡ s → p ≡ q
equal p q r s positive e same =
    let f : p * s ≡ q * s = subst (λ (x : ℕ). p * x ≡ q * s) same e in
    omega (arith, less_from_products p (q + 1) s (omega (arith, f)), less_from_products q (p + 1) s (omega (arith, f)))

above : (a p q r s m : ℕ) → 0 < q → p * r ≡ q * s → IsBetween (a * p) q m → 2 * (m * r) ≤ 2 * (a * s) + r
above a p q r s m positive e b =
    let low = mul-le (2 * (m * q)) r (2 * (a * p) + q) r b.low (omega arith) in
    let f : a * (p * r) ≡ a * (q * s) = ap (λ (x : ℕ). a * x) e in
    let g = less_from_products (2 * (m * r)) (2 * (a * s) + r + 1) q (omega (arith, low, f)) in
    omega (arith, g)

below : (a p q r s m : ℕ) → 0 < q → 0 < r → p * r ≡ q * s → IsBetween (a * p) q m → 2 * (a * s) ≤ 2 * (m * r) + r
below a p q r s m positive some e b =
    let high = mul-le (2 * (a * p) + q) r (2 * (m * q) + 2 * q) r (omega (arith, b.high)) (omega arith) in
    let f : a * (p * r) ≡ a * (q * s) = ap (λ (x : ℕ). a * x) e in
    let g = less_from_products (2 * (a * s)) (2 * (m * r) + r + 1) q (omega (arith, high, f)) in
    omega (arith, g)

between : (a p q r s m : ℕ) → 0 < q → 0 < s → q ≤ p → p * r ≡ q * s → IsBetween (a * p) q m → IsBetween (m * r) s a
between a p q r s m positive some le e b =
    let small = smaller p q r s positive le e in
    let product = mul-le 1 1 q s positive some in
    let there : 0 < r = elim (cases_lt 0 r) [
      | inl more ↦ more
      | inr none ↦ absurd (omega (arith, e, product, ap (λ (x : ℕ). p * x) (zero_of r none)))
    ] in
    let high = above a p q r s m positive e b in
    let low = below a p q r s m positive there e b in
    elim (cases_lt r s) [
      | inl less ↦ record { low = omega (arith, low, small); high = omega (arith, high, less) }
      | inr more ↦
          let same : r ≡ s = omega (arith, small, more) in
          let one = equal p q r s some e same in
          let is = same_again a m q positive (subst (λ (x : ℕ). IsBetween (a * x) q m) one b) in
          record { low = omega (arith, ap (λ (x : ℕ). m * x) same, ap (λ (x : ℕ). x * s) is); high = omega (arith, ap (λ (x : ℕ). m * x) same, ap (λ (x : ℕ). x * s) is) }
    ]
  where
    zero_of : (n : ℕ) → n ≤ 0 → n ≡ 0
    zero_of n h = omega arith

    same_again : (a m q : ℕ) → 0 < q → IsBetween (a * q) q m → m ≡ a
    same_again a m q positive b =
        let up = less_from_products (2 * m) (2 * a + 2) q (omega (arith, b.low)) in
        let down = less_from_products (2 * a) (2 * m + 1) q (omega (arith, b.high)) in
        omega (arith, up, down)

pub sizes : (a p q r s : ℕ) → 0 < q → 0 < s → q ≤ p → p * r ≡ q * s → nearest (nearest (a * p) q * r) s ≡ a
sizes a p q r s positive some le e =
    nearest_is (nearest (a * p) q * r) s a some (between a p q r s (nearest (a * p) q) positive some le e (nearest_between (a * p) q positive))

signed_product : (negative : Bool) (size r : ℕ) → signed negative size *ℤ pos r ≡ signed negative (size * r)
signed_product true size r = neg-mul size r
signed_product false size r = refl

pub counts : (a p q r s : ℕ) (negative : Bool) → 0 < q → 0 < s → q ≤ p → p * r ≡ q * s
    → round (round (signed negative (a * p)) q *ℤ pos r) s ≡ signed negative a
counts a p q r s negative positive some le e =
    ap (λ (x : ℤ). round (x *ℤ pos r) s) (round_signed negative (a * p) q positive)
    ∙ ap (λ (x : ℤ). round x s) (signed_product negative (nearest (a * p) q) r)
    ∙ round_signed negative (nearest (a * p) q * r) s some
    ∙ ap (signed negative) (sizes a p q r s positive some le e)

as_signed : (x : ℤ) → signed (lt_z x (pos 0)) (unsigned_abs x) ≡ x
as_signed (pos a) = rw (not_below_zero a) refl
as_signed (negsuc a) = refl

pub there_and_back : IsStable
there_and_back p q r s x positive some le e =
    let negative = lt_z x (pos 0) in
    let product : x *ℤ pos p ≡ signed negative (unsigned_abs x * p) =
    ap (λ (y : ℤ). y *ℤ pos p) (sym (as_signed x)) ∙ signed_product negative (unsigned_abs x) p in
    ap (λ (y : ℤ). round (round y q *ℤ pos r) s) product ∙ counts (unsigned_abs x) p q r s negative positive some le e ∙ as_signed x

pub decimal_there_and_back : IsStableDecimal
decimal_there_and_back num den r s places digits negative positive some le e =
    counts digits num (10 ^ places * den) r s negative (product_positive places den positive) some le e
