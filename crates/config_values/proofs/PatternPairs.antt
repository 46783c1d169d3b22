-- Patterns that are equal.
use Rattle.std.proofs.Common.{◌≡◌, ◌≢◌, ℕ, nat_eq, ◌&&◌, not, IsTrue, Bool, true, false, Option, None, Some, refl, sym, ap, ◌∙◌, subst, eqb-true, eq-eqb}
use Rattle.std.specs.Bool.{beq}
use Rattle.std.specs.Option.{option_eq}
use Rattle.std.proofs.lemmas.Bool.{and_parts, false≢true}
use Rattle.n2k_id.specs.declared.pattern.Pattern.{Pattern}
use Rattle.n2k_id.specs.contracts.pattern.PatternPartialEq as pattern

-- the test that each field is the same
abbrev same : Pattern → Pattern → Bool
same p q =
    option_eq nat_eq p.unique q.unique && (option_eq nat_eq p.manufacturer q.manufacturer && (option_eq nat_eq p.instance_lower q.instance_lower
    && (option_eq nat_eq p.instance_upper q.instance_upper && (option_eq nat_eq p.function q.function && (option_eq nat_eq p.reserved q.reserved
    && (option_eq nat_eq p.class q.class && (option_eq nat_eq p.system_instance q.system_instance
    && (option_eq nat_eq p.industry q.industry && option_eq beq p.arbitrary q.arbitrary))))))))

same_number : (a b : Option ℕ) → option_eq nat_eq a b ≡ true → a ≡ b
same_number None None e = refl
same_number None (Some y) e = absurd (false≢true e)
same_number (Some x) None e = absurd (false≢true e)
same_number (Some x) (Some y) e = ap (λ n. Some n) (eqb-true x y e)

same_bit : (a b : Option Bool) → option_eq beq a b ≡ true → a ≡ b
same_bit None None e = refl
same_bit None (Some y) e = absurd (false≢true e)
same_bit (Some x) None e = absurd (false≢true e)
same_bit (Some true) (Some true) e = refl
same_bit (Some false) (Some false) e = refl
same_bit (Some true) (Some false) e = absurd (false≢true e)
same_bit (Some false) (Some true) e = absurd (false≢true e)

number_itself : (a : Option ℕ) → option_eq nat_eq a a ≡ true
number_itself None = refl
number_itself (Some x) = eq-eqb x x refl

bit_itself : (a : Option Bool) → option_eq beq a a ≡ true
bit_itself None = refl
bit_itself (Some true) = refl
bit_itself (Some false) = refl

itself : (p : Pattern) → same p p ≡ true
itself p =
    rw (
      number_itself p.unique,
      number_itself p.manufacturer,
      number_itself p.instance_lower,
      number_itself p.instance_upper,
      number_itself p.function,
      number_itself p.reserved,
      number_itself p.class,
      number_itself p.system_instance,
      number_itself p.industry,
      bit_itself p.arbitrary,
    )

made : (a b c d e f g h i : Option ℕ) (j : Option Bool) → Pattern
made a b c d e f g h i j = record {
  unique = a;
  manufacturer = b;
  instance_lower = c;
  instance_upper = d;
  function = e;
  reserved = f;
  class = g;
  system_instance = h;
  industry = i;
  arbitrary = j;
}

equal : (p q : Pattern) → same p q ≡ true → p ≡ q
unfolding made
equal p q e =
    let (unique, e1) = and_parts _ _ e in
    let (manufacturer, e2) = and_parts _ _ e1 in
    let (instance_lower, e3) = and_parts _ _ e2 in
    let (instance_upper, e4) = and_parts _ _ e3 in
    let (function, e5) = and_parts _ _ e4 in
    let (reserved, e6) = and_parts _ _ e5 in
    let (class, e7) = and_parts _ _ e6 in
    let (system_instance, e8) = and_parts _ _ e7 in
    let (industry, arbitrary) = and_parts _ _ e8 in
    let f1 = same_number p.unique q.unique unique in
    let f2 = same_number p.manufacturer q.manufacturer manufacturer in
    let f3 = same_number p.instance_lower q.instance_lower instance_lower in
    let f4 = same_number p.instance_upper q.instance_upper instance_upper in
    let f5 = same_number p.function q.function function in
    let f6 = same_number p.reserved q.reserved reserved in
    let f7 = same_number p.class q.class class in
    let f8 = same_number p.system_instance q.system_instance system_instance in
    let f9 = same_number p.industry q.industry industry in
    let f10 = same_bit p.arbitrary q.arbitrary arbitrary in
    let joined :
    made p.unique p.manufacturer p.instance_lower p.instance_upper p.function p.reserved p.class p.system_instance p.industry p.arbitrary
    ≡ made q.unique q.manufacturer q.instance_lower q.instance_upper q.function q.reserved q.class q.system_instance q.industry q.arbitrary =
    cc in
    joined

other : (p q : Pattern) → same p q ≡ false → p ≢ q
other p q is e = false≢true (sym is ∙ subst (λ (x : Pattern). same p x ≡ true) e (itself p))

by_test : (p q : Pattern) (b : Bool) → same p q ≡ b → (r : Bool) → r ≡ not b → (IsTrue r → p ≢ q) × (p ≢ q → IsTrue r)
by_test p q true is r e = (λ holds same_one. false≢true (sym e ∙ holds), λ differs. absurd (differs (equal p q is)))
by_test p q false is r e = (λ holds. other p q is, λ differs. e)

-- the test that `!=` computes tells which patterns differ
pub differ : (p q : Pattern) (r : Bool) → r ≡ not (pattern.TheImpl.ghosts.eq p q) → (IsTrue r → p ≢ q) × (p ≢ q → IsTrue r)
differ p q r e = by_test p q (same p q) refl r e
