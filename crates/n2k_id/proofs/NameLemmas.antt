use Rattle.std.proofs.Common.{◌≡◌, ℕ, Bool, ◌+◌, ◌*◌, ◌/◌, ◌%◌, ◌^◌, ◌<◌, ◌==◌, true, false, zero, suc, get_or, List, [], ◌∷◌, refl, ap, sym, ◌∙◌, arith}
use Rattle.std.proofs.lemmas.Nat.{mod-mul-add, div-mul-add, div-add-mod', pow-add, pow_pos}
use Rattle.std.proofs.Math.Nat.{div-div-eq-div-mul, div-lt_iff_lt-mul, mul_comm}
use Rattle.n2k_id.specs.declared.name.NameFields.{NameFields}
use Rattle.n2k_id.specs.Name.{cut, number_of, FitEach, IsMadeOf, bits_at, bit_of, fields_of, is_arbitrary, values, widths}

-- what is joined from fields that fit is cut into them
pub cut-joined : (ws xs : List ℕ) → FitEach ws xs → cut ws (number_of ws xs) ≡ xs
cut-joined [] [] fit = refl
cut-joined [] (x ∷ xs) fit = elim fit [ ]
cut-joined (w ∷ ws) [] fit = elim fit [ ]
cut-joined (w ∷ ws) (x ∷ xs) fit =
    rw (mod-mul-add (number_of ws xs) (2 ^ w) x fit.0, div-mul-add (number_of ws xs) (2 ^ w) x fit.0, cut-joined ws xs fit.1)

-- what is cut fits
pub FitEach-cut : (ws : List ℕ) (n : ℕ) → FitEach ws (cut ws n)
FitEach-cut [] n = tt
FitEach-cut (w ∷ ws) n =
    let positive : 0 < 2 ^ w = pow_pos w in
    let fits : n % 2 ^ w < 2 ^ w = omega arith in
    (fits, FitEach-cut ws (n / 2 ^ w))

-- how many bits the fields have
abbrev bits_in : List ℕ → ℕ
bits_in [] = 0
bits_in (w ∷ ws) = w + bits_in ws

-- and is the number when it is joined again, where no bit lies beyond the fields
pub joined-cut : (ws : List ℕ) (n : ℕ) → n < 2 ^ bits_in ws → number_of ws (cut ws n) ≡ n
joined-cut [] n h = omega arith
joined-cut (w ∷ ws) n h =
    let split : 2 ^ (w + bits_in ws) ≡ 2 ^ bits_in ws * 2 ^ w = pow-add 2 w (bits_in ws) ∙ mul_comm (2 ^ w) (2 ^ bits_in ws) in
    let below : n < 2 ^ bits_in ws * 2 ^ w = rw split at h in
    let rest : n / 2 ^ w < 2 ^ bits_in ws = (div-lt_iff_lt-mul (pow_pos w)).1 below in
    rw (joined-cut ws (n / 2 ^ w) rest) (div-add-mod' n (2 ^ w))

-- the fields of these widths from this bit on
abbrev bits_from : ℕ → List ℕ → ℕ → List ℕ
bits_from low [] n = []
bits_from low (w ∷ ws) n = bits_at low w n ∷ bits_from (low + w) ws n

cut-bits_from : (ws : List ℕ) (low n : ℕ) → cut ws (n / 2 ^ low) ≡ bits_from low ws n
unfolding bits_at
cut-bits_from [] low n = refl
cut-bits_from (w ∷ ws) low n =
    let next : n / 2 ^ low / 2 ^ w ≡ n / 2 ^ (low + w) = div-div-eq-div-mul n (2 ^ low) (2 ^ w) ∙ ap (λ k. n / k) (sym (pow-add 2 low w)) in
    rw (next, cut-bits_from ws (low + w) n)

bit_of-bit : (x : ℕ) → x < 2 → bit_of (x == 1) ≡ x
bit_of-bit zero h = refl
bit_of-bit (suc zero) h = refl
bit_of-bit (suc (suc x)) h = absurd (omega arith)

top_bit : (n : ℕ) → bit_of (bits_at 63 1 n == 1) ≡ bits_at 63 1 n
unfolding bits_at
top_bit n = bit_of-bit (n / 2 ^ 63 % 2 ^ 1) (omega arith)

-- the fields of a NAME are cut from it by their widths
pub values-fields_of : (name : ℕ) → values (fields_of name) ≡ cut widths name
unfolding values fields_of is_arbitrary widths
values-fields_of name =
    let whole : name / 2 ^ 0 ≡ name = omega arith in
    let cuts = cut-bits_from (21 ∷ 11 ∷ 3 ∷ 5 ∷ 8 ∷ 1 ∷ 7 ∷ 4 ∷ 3 ∷ 1 ∷ []) 0 name in
    rw (top_bit name) (sym (rw whole at cuts))

-- a NAME consists of its fields
pub made_of_fields : (name : ℕ) → name < 2 ^ 64 → IsMadeOf name (fields_of name)
made_of_fields name h = record {
  fit = rw (values-fields_of name) (FitEach-cut widths name);
  number = rw (values-fields_of name) (sym (joined-cut widths name (unfold widths in h)));
}

-- the fields of their values
abbrev pub of_values : List ℕ → NameFields
of_values xs = record {
  unique = get_or xs 0 0;
  manufacturer = get_or xs 1 0;
  instance_lower = get_or xs 2 0;
  instance_upper = get_or xs 3 0;
  function = get_or xs 4 0;
  reserved = get_or xs 5 0;
  class = get_or xs 6 0;
  system_instance = get_or xs 7 0;
  industry = get_or xs 8 0;
  arbitrary = get_or xs 9 0 == 1;
}

bit_of-tells : (b : Bool) → bit_of b == 1 ≡ b
bit_of-tells true = refl
bit_of-tells false = refl

pub of_values-values : (f : NameFields) → of_values (values f) ≡ f
unfolding values
of_values-values f = rw (bit_of-tells f.arbitrary)

-- a NAME that consists of fields has these fields
pub fields_of_made : (name : ℕ) (f : NameFields) → IsMadeOf name f → fields_of name ≡ f
fields_of_made name f made =
    let same : values (fields_of name) ≡ values f = values-fields_of name ∙ ap (cut widths) made.number ∙ cut-joined widths (values f) made.fit in
    sym (of_values-values (fields_of name)) ∙ ap of_values same ∙ of_values-values f

-- NAMEs with the same fields are the same
pub name_tells : (name other : ℕ) → name < 2 ^ 64 → other < 2 ^ 64 → fields_of name ≡ fields_of other → name ≡ other
name_tells name other h k e =
    (made_of_fields name h).number ∙ ap (λ f. number_of widths (values f)) e ∙ sym (made_of_fields other k).number
