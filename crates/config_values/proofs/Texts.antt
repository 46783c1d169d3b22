-- The texts of hosts and ports.
use Rattle.std.proofs.Common.{◌≡◌, ◌≢◌, ℕ, zero, suc, ◌^◌, ◌<◌, ◌≤◌, List, get_or, decimal, sym, ap, ◌∙◌, subst, arith}
use Rattle.std.specs.Str.{IsUtf8}
use Rattle.std.specs.Str.Parse.{IsNumeral, digits_value, without_leading_plus}
use Rattle.std.proofs.lemmas.Str.{IsUtf8-from_ascii}
use Rattle.std.proofs.lemmas.Str.Parse.{numerals_by_value, tells_digits, without_leading_plus_none}
use Rattle.std.proofs.lemmas.Fmt.{decimal_is_IsNumeral, decimal-digits_value, decimal_digit, first_decimal, IsAscii-from_digits}
use Rattle.config_values.specs.Endpoints.{IsPort}

-- a number that doesn't begin with 0 isn't 0
not_zero : (n : ℕ) (text : List ℕ) → decimal n ≡ text → get_or text 0 0 ≢ 48 → 1 ≤ n
not_zero zero text written other = absurd (other (ap (λ (t : List ℕ). get_or t 0 0) (sym written ∙ decimal_digit 0 (omega arith))))
not_zero (suc n) text written other = omega arith

-- digits that begin with none of `+` and `0` and write a number of 16 bits are a port
pub port_from :
    (text : List ℕ) → get_or text 0 0 ≢ 43 → get_or text 0 0 ≢ 48
    → IsNumeral 10 (without_leading_plus text) → digits_value 10 (without_leading_plus text) < 2 ^ 16 → IsPort text
port_from text unsigned first numeral small =
    let same = without_leading_plus_none text unsigned in
    let digits : IsNumeral 10 text = subst (λ (t : List ℕ). IsNumeral 10 t) same numeral in
    let fits : digits_value 10 text < 2 ^ 16 = subst (λ (t : List ℕ). digits_value 10 t < 2 ^ 16) same small in
    let wide : digits_value 10 text < 2 ^ 64 = omega arith in
    let written = decimal-digits_value (numerals_by_value _ tells_digits) text digits.1 digits.0 (λ zero_first. absurd (first zero_first)) wide in record {
      port = digits_value 10 text;
      least = not_zero (digits_value 10 text) text written first;
      most = fits;
      spelled = sym written;
    }

-- what is read of a port
pub record IsRead (text : List ℕ) : Type 0 where
  pub first : 48 < get_or text 0 0
  pub unsigned : get_or text 0 0 ≢ 43
  pub utf8 : IsUtf8 text
  pub numeral : IsNumeral 10 (without_leading_plus text)
  pub small : digits_value 10 (without_leading_plus text) < 2 ^ 16

pub port_to : (text : List ℕ) → IsPort text → IsRead text
port_to text p =
    let most : p.port < 2 ^ 64 = omega (arith, p.most) in
    let first : 48 < get_or text 0 0 = subst (λ (t : List ℕ). 48 < get_or t 0 0) (sym p.spelled) (first_decimal p.port p.least most) in
    let unsigned : get_or text 0 0 ≢ 43 = λ (plus : get_or text 0 0 ≡ 43). let no : ⊥ = omega arith in no in
    let same = without_leading_plus_none text unsigned in
    let (numeral, value) = decimal_is_IsNumeral p.port most in
    let digits : IsNumeral 10 text = subst (λ (t : List ℕ). IsNumeral 10 t) (sym p.spelled) numeral in
    let number : digits_value 10 text ≡ p.port = ap (λ (t : List ℕ). digits_value 10 t) p.spelled ∙ value in record {
      first = first;
      unsigned = unsigned;
      utf8 = IsUtf8-from_ascii text (IsAscii-from_digits text digits.1);
      numeral = subst (λ (t : List ℕ). IsNumeral 10 t) (sym same) digits;
      small = subst (λ (t : List ℕ). digits_value 10 t < 2 ^ 16) (sym same) (rw number p.most);
    }
