-- Two digits write a sum exactly where nothing keeps them from it.
use Rattle.std.proofs.Common.{◌≡◌, ℕ, zero, suc, ◌+◌, ◌*◌, ◌<◌, Bool, true, false, cond, leb, List, [], ◌∷◌, length, Option, Some, None, refl, subst, arith}
use Rattle.std.specs.Prelude.{◌==◌, not, slice_index}
use Rattle.std.specs.Char.{digit_value}
use Rattle.std.proofs.lemmas.Bool.{leb-false, eqb-true, eq-eqb, lt-leb, not-false}
use Rattle.sentence_text.specs.declared.sum.SumFault.{SumFault}
use Rattle.sentence_text.specs.declared.sum.SumFault.TheVariants.{First, Second}
use Rattle.sentence_text.specs.Sum.{sum_fault}

pub record WritesSum (sum high low : ℕ) : Type 0 where
  pub high_digit : digit_value high < 16
  pub low_digit : digit_value low < 16
  pub is : digit_value high * 16 + digit_value low ≡ sum

guard : (b : Bool) (f : SumFault) (rest : Option SumFault) → cond b (Some f) rest ≡ None → (b ≡ false) × (rest ≡ None)
guard true f rest e = absurd cc
guard false f rest e = (refl, e)

pub sum_found : (sum high low : ℕ) → sum_fault sum high low ≡ None → WritesSum sum high low
unfolding sum_fault
sum_found sum high low e =
    let a = guard (leb 16 (digit_value high)) _ _ e in
    let b = guard (leb 16 (digit_value low)) _ _ a.1 in
    let c = guard (not (digit_value high * 16 + digit_value low == sum)) _ _ b.1 in
    record {
      high_digit = leb-false 16 (digit_value high) a.0;
      low_digit = leb-false 16 (digit_value low) b.0;
      is = eqb-true (digit_value high * 16 + digit_value low) sum (not-false (digit_value high * 16 + digit_value low == sum) c.0);
    }

pub sum_again : (sum high low : ℕ) → digit_value high < 16 → digit_value low < 16 → digit_value high * 16 + digit_value low ≡ sum → sum_fault sum high low ≡ None
unfolding sum_fault
sum_again sum high low h l e =
    let a : leb 16 (digit_value high) ≡ false = lt-leb 16 (digit_value high) h in
    let b : leb 16 (digit_value low) ≡ false = lt-leb 16 (digit_value low) l in
    let c : (digit_value high * 16 + digit_value low == sum) ≡ true = eq-eqb (digit_value high * 16 + digit_value low) sum e in
    rw (a, b, c) refl

not_first : (b : Bool) (rest : Option SumFault) → cond b (Some First) rest ≡ Some Second → b ≡ false
not_first true rest e = absurd cc
not_first false rest e = refl

-- where the second is at fault, the first is a digit
pub first_digit : (sum high low : ℕ) → sum_fault sum high low ≡ Some Second → digit_value high < 16
unfolding sum_fault
first_digit sum high low e = leb-false 16 (digit_value high) (not_first (leb 16 (digit_value high)) _ e)

-- a byte other than 0 is there, and so is a digit
pub is_there : (bytes : List ℕ) (n : ℕ) → (slice_index bytes n ≡ 0 → ⊥) → n < length bytes
is_there [] n h = absurd (h refl)
is_there (b ∷ bs) zero h = omega arith
is_there (b ∷ bs) (suc n) h = omega (arith, is_there bs n h)

no_digit : digit_value 0 < 16 → ⊥
no_digit h = omega (arith, h)

pub digit_there : (bytes : List ℕ) (n : ℕ) → digit_value (slice_index bytes n) < 16 → n < length bytes
digit_there bytes n h = is_there bytes n (λ none. no_digit (subst (λ (c : ℕ). digit_value c < 16) none h))
