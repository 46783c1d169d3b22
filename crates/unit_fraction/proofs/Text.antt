-- Writing digits from the last to the first.
use Rattle.std.proofs.Common.{◌≡◌, ℕ, zero, suc, ◌+◌, ◌-◌, ◌*◌, ◌/◌, ◌%◌, ◌<◌, ◌≤◌, ◌^◌, List, [], ◌∷◌, ◌++◌, length, refl, sym, ap, subst, ◌∙◌, append_assoc, add-one, length-append, arith, rules}
use Rattle.std.specs.Fmt.{decimal}
use Rattle.std.proofs.Math.Nat.{div-div-eq-div-mul, div-le_self, pow-suc, pow-succ'}
use Rattle.std.specs.Prelude.{Bool, true, slice_index}
use Rattle.std.specs.Char.{is_ascii_digit}
use Rattle.std.specs.Str.{all_ascii_digits}
use Rattle.std.proofs.lemmas.Bool.{and_parts, and_from}
use Rattle.std.proofs.lemmas.List.{append-nil}
use Rattle.std.proofs.lemmas.Str.Parse.{IsNumeralModel, numerals_by_fold, tells_all_ascii_digits}
use Rattle.std.proofs.lemmas.Fmt.{decimal_digit, decimal_step, decimal_nonempty, length-decimal-le_wide, first_decimal, digits_decimal, digits_value-decimal}
use Rattle.unit_fraction.specs.Digits.{number_after, number}
use Rattle.unit_fraction.specs.Text.{decimals, IsDecimalText, decimal_text}

-- so many decimals of n are written in front of `before`, and `rest` is left
pub record Decimals (n places : ℕ) (before : List ℕ) (written rest : ℕ) (text : List ℕ) : Type 0 where
  pub rest_is : rest ≡ n / 10 ^ written
  pub text_is : decimals (places - written) rest ++ text ≡ decimals places n ++ before
  pub len : length text ≡ length before + written

pub decimals_start : (n places : ℕ) (before : List ℕ) → Decimals n places before 0 n before
decimals_start n places before = record { rest_is = omega arith; text_is = grind arith; len = omega arith }

pub decimals_step : (n places : ℕ) (before : List ℕ) (written rest : ℕ) (text : List ℕ) → written < places
    → Decimals n places before written rest text → Decimals n places before (written + 1) (rest / 10) ((48 + rest % 10) ∷ text)
decimals_step n places before written rest text more d =
    let k : places - written ≡ suc (places - (written + 1)) = omega arith in
    let power : 10 ^ (written + 1) ≡ 10 ^ written * 10 = rw add-one (pow-suc 10 written) in
    let front = decimals (places - (written + 1)) (rest / 10) in
    let moved : decimals (places - written) rest ++ text ≡ front ++ (48 + rest % 10) ∷ text = rw k (append_assoc front ((48 + rest % 10) ∷ []) text) in
    record {
      rest_is = rw (power, d.rest_is) (div-div-eq-div-mul n (10 ^ written) 10);
      text_is = sym moved ∙ d.text_is;
      len = omega (arith, d.len);
    }

-- a number of 64 bits has at most twenty digits
whole_len : (n : ℕ) → n < 2 ^ 64 → length (decimal n) ≤ 20
whole_len n fits = length-decimal-le_wide 20 n (omega arith) (omega arith) (omega arith)

pub whole_fits : (n rest : ℕ) (text before : List ℕ) → n < 2 ^ 64 → rest < 2 ^ 64 → decimal rest ++ text ≡ decimal n ++ before → length text < length before + 20
whole_fits n rest text before fits small e =
    omega (arith, whole_len n fits, decimal_nonempty rest small, length-append (decimal rest) text, length-append (decimal n) before, ap length e)

pub whole_step : (n rest : ℕ) (text before : List ℕ) → rest < 2 ^ 64 → 10 ≤ rest → decimal rest ++ text ≡ decimal n ++ before → decimal (rest / 10) ++ (48 + rest % 10) ∷ text ≡ decimal n ++ before
whole_step n rest text before small more e =
    sym (append_assoc (decimal (rest / 10)) ((48 + rest % 10) ∷ []) text) ∙ ap (λ (x : List ℕ). x ++ text) (sym (decimal_step rest more small)) ∙ e

pub whole_last : (n rest : ℕ) (text before : List ℕ) → rest < 10 → decimal rest ++ text ≡ decimal n ++ before → (48 + rest) ∷ text ≡ decimal n ++ before
whole_last n rest text before last e = ap (λ (x : List ℕ). x ++ text) (sym (decimal_digit rest last)) ∙ e

-- ---- what is written has the form of a decimal

pub own : IsNumeralModel (λ ds. all_ascii_digits ds ≡ true) number
own = numerals_by_fold (λ ds. all_ascii_digits ds ≡ true) tells_all_ascii_digits number_after (search rules)

all_digits-push : (ds : List ℕ) (d : ℕ) → d < 10 → all_ascii_digits ds ≡ true → all_ascii_digits (ds ++ (48 + d) ∷ []) ≡ true
all_digits-push [] d small h = grind arith
all_digits-push (c ∷ cs) d small h =
    let p = and_parts (is_ascii_digit c) (all_ascii_digits cs) h in
    and_from (is_ascii_digit c) (all_ascii_digits (cs ++ (48 + d) ∷ [])) p.0 (all_digits-push cs d small p.1)

number_after-push : (n : ℕ) (ds : List ℕ) (d : ℕ) → number_after n (ds ++ (48 + d) ∷ []) ≡ number_after n ds * 10 + d
number_after-push n [] d = omega arith
number_after-push n (c ∷ cs) d = number_after-push (n * 10 + (c - 48)) cs d

-- the digits before the point and behind it
pub record Writes (n : ℕ) (ds : List ℕ) : Type 0 where
  pub are_digits : all_ascii_digits ds ≡ true
  pub value : number ds ≡ n

pub writes_all : (k n : ℕ) → n < 2 ^ 64 → Writes n (decimal (n / 10 ^ k) ++ decimals k n)
writes_all zero n fits =
    let one : n / 10 ^ 0 ≡ n = omega arith in
    rw (one, append-nil) (record { are_digits = digits_decimal own n fits; value = digits_value-decimal own n fits })
writes_all (suc k) n fits =
    let front = writes_all k (n / 10) (omega arith) in
    let power : 10 ^ suc k ≡ 10 * 10 ^ k = pow-succ' 10 k in
    let same : n / 10 ^ suc k ≡ n / 10 / 10 ^ k = rw power (sym (div-div-eq-div-mul n 10 (10 ^ k))) in
    let ds = decimal (n / 10 / 10 ^ k) ++ decimals k (n / 10) in
    let last : Writes n (ds ++ (48 + n % 10) ∷ []) = record {
      are_digits = all_digits-push ds (n % 10) (omega arith) front.are_digits;
      value = number_after-push 0 ds (n % 10) ∙ omega (arith, front.value);
    } in
    let shape : decimal (n / 10 ^ suc k) ++ (decimals k (n / 10) ++ (48 + n % 10) ∷ []) ≡ ds ++ (48 + n % 10) ∷ [] =
    ap (λ (q : ℕ). decimal q ++ (decimals k (n / 10) ++ (48 + n % 10) ∷ [])) same ∙ sym (append_assoc (decimal (n / 10 / 10 ^ k)) (decimals k (n / 10)) ((48 + n % 10) ∷ [])) in
    subst (Writes n) (sym shape) last

pub length-decimals : (k n : ℕ) → length (decimals k n) ≡ k
length-decimals zero n = refl
length-decimals (suc k) n = omega (arith, length-append (decimals k (n / 10)) ((48 + n % 10) ∷ []), length-decimals k (n / 10))

shortest_whole : (n : ℕ) → n < 2 ^ 64 → slice_index (decimal n) 0 ≡ 48 → length (decimal n) ≡ 1
shortest_whole zero fits e = ap length (decimal_digit 0 (omega arith))
shortest_whole (suc n) fits e = absurd (omega (arith, first_decimal (suc n) (omega arith) fits, e))

pub has_form : (negative : Bool) (digits places : ℕ) → digits < 2 ^ 64 → IsDecimalText negative digits places (decimal_text negative digits places)
has_form negative digits places fits =
    let all = writes_all places digits fits in
    let small : digits / 10 ^ places < 2 ^ 64 = omega (arith, div-le_self digits (10 ^ places)) in
    record {
      whole = decimal (digits / 10 ^ places);
      part = decimals places digits;
      spelled = refl;
      are_digits = all.are_digits;
      value = all.value;
      some = decimal_nonempty (digits / 10 ^ places) small;
      shortest = shortest_whole (digits / 10 ^ places) small;
      exact = length-decimals places digits;
    }
