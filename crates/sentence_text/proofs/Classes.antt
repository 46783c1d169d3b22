-- The table of the classes of bytes says what the definitions say of each.
use Rattle.std.proofs.Common.{◌≡◌, ℕ, zero, suc, ◌-◌, ◌<◌, Bool, true, false, ◌&&◌, T, eqb, eq-zero-or-pos, get_or, refl, arith, inl, inr}
use Rattle.std.specs.Prelude.{nat_le}
use Rattle.std.specs.Bool.{beq}
use lib.Ieee.Fits.{and_l, and_r}
use Rattle.sentence_text.specs.Byte.{is_address_byte, is_body_byte}
use Rattle.sentence_text.specs.declared.byte.TheConstants.{CLASSES}

same_is : (a b : Bool) → T (beq a b) → a ≡ b
same_is true true t = refl
same_is false false t = refl
same_is true false t = absurd t
same_is false true t = absurd t

-- two tests say the same of all numbers below one
abbrev pub are_same : (ℕ → Bool) → (ℕ → Bool) → ℕ → Bool
are_same f g zero = true
are_same f g (suc c) = beq (f c) (g c) && are_same f g c

pub same_below : (f g : ℕ → Bool) (n c : ℕ) → T (are_same f g n) → c < n → f c ≡ g c
same_below f g zero c all below = absurd (omega (arith, below))
same_below f g (suc n) c all below =
    elim (eq-zero-or-pos (n - c)) [
      | inl last ↦ let e : c ≡ n = omega (arith, below, last) in rw e (same_is _ _ (and_l _ (are_same f g n) all))
      | inr before ↦ same_below f g n c (and_r _ (are_same f g n) all) (omega (arith, before))
    ]

pub address_is : (c : ℕ) → c < 256 → eqb (get_or CLASSES c 0) 97 ≡ is_address_byte c
address_is c below = same_below (λ b. eqb (get_or CLASSES b 0) 97) is_address_byte 256 c tt below

pub body_is : (c : ℕ) → c < 256 → nat_le 97 (get_or CLASSES c 0) ≡ is_body_byte c
body_is c below = same_below (λ b. nat_le 97 (get_or CLASSES b 0)) is_body_byte 256 c tt below
