-- The bytes of a body and its fields say the same.
use Rattle.std.proofs.Common.{◌≡◌, ℕ, ◌+◌, true, false, List, [], ◌∷◌, ◌++◌, All, refl, sym, ap, ◌∙◌, arith, take, inl, inr}
use Rattle.std.specs.Prelude.{IsTrue, ◌==◌, not}
use Rattle.std.specs.List.{list_all, position_or_len}
use Rattle.std.proofs.lemmas.Bool.{eqb-true, cases_Bool, and_parts, and_from}
use Rattle.std.proofs.lemmas.List.Elements.{All-nil, All-cons}
use Rattle.std.proofs.lemmas.List.Concat.{flat_map-cons}
use Rattle.sentence_text.specs.Byte.{is_body_byte, is_field_byte}
use Rattle.sentence_text.specs.Sentence.{body_of, IsBody}
use Rattle.sentence_text.specs.Fields.{field_at_front, fields_of}

take_one_more : (n c : ℕ) (cs : List ℕ) → take (1 + n) (c ∷ cs) ≡ c ∷ take n cs
take_one_more n c cs = grind arith

at_comma : (c : ℕ) (cs : List ℕ) → (c == 44) ≡ true → field_at_front (c ∷ cs) ≡ []
at_comma c cs e = rw e refl

before_comma : (c : ℕ) (cs : List ℕ) → (c == 44) ≡ false → field_at_front (c ∷ cs) ≡ c ∷ field_at_front cs
before_comma c cs e =
    let len : position_or_len (λ x. x == 44) (c ∷ cs) ≡ 1 + position_or_len (λ x. x == 44) cs = rw e refl in
    ap (λ (n : ℕ). take n (c ∷ cs)) len ∙ take_one_more (position_or_len (λ x. x == 44) cs) c cs

pub fields_at_comma : (c : ℕ) (cs : List ℕ) → (c == 44) ≡ true → fields_of (c ∷ cs) ≡ field_at_front cs ∷ fields_of cs
fields_at_comma c cs e = rw e refl

pub fields_before_comma : (c : ℕ) (cs : List ℕ) → (c == 44) ≡ false → fields_of (c ∷ cs) ≡ fields_of cs
fields_before_comma c cs e = rw e refl

pub body_of-fields_of : (cs : List ℕ) → field_at_front cs ++ body_of (fields_of cs) ≡ cs
body_of-fields_of [] = refl
body_of-fields_of (c ∷ cs) = elim (cases_Bool (c == 44)) [
  | inl e ↦ rw (at_comma c cs e, fields_at_comma c cs e, eqb-true c 44 e, flat_map-cons) (ap (λ (x : List ℕ). 44 ∷ x) (body_of-fields_of cs))
  | inr e ↦ rw (before_comma c cs e, fields_before_comma c cs e) (ap (λ (x : List ℕ). c ∷ x) (body_of-fields_of cs))
]

front_passes : (cs : List ℕ) → list_all is_body_byte cs ≡ true → list_all is_field_byte (field_at_front cs) ≡ true
front_passes [] h = refl
front_passes (c ∷ cs) h =
    let p = and_parts (is_body_byte c) (list_all is_body_byte cs) h in
    elim (cases_Bool (c == 44)) [
      | inl e ↦ rw (at_comma c cs e) refl
      | inr e ↦ rw (before_comma c cs e) (and_from (is_field_byte c) (list_all is_field_byte (field_at_front cs)) (and_from (is_body_byte c) (not (c == 44)) p.0 (rw e refl)) (front_passes cs p.1))
    ]

abbrev AreFields : List (List ℕ) → Type 0
AreFields fields = All (λ field. IsTrue (list_all is_field_byte field)) fields

fields_pass : (cs : List ℕ) → list_all is_body_byte cs ≡ true → AreFields (fields_of cs)
fields_pass [] h = All-nil (λ field. IsTrue (list_all is_field_byte field))
fields_pass (c ∷ cs) h =
    let p = and_parts (is_body_byte c) (list_all is_body_byte cs) h in
    elim (cases_Bool (c == 44)) [
      | inl e ↦ rw (fields_at_comma c cs e) (All-cons (λ field. IsTrue (list_all is_field_byte field)) (field_at_front cs) (fields_of cs) (front_passes cs p.1) (fields_pass cs p.1))
      | inr e ↦ rw (fields_before_comma c cs e) (fields_pass cs p.1)
    ]

-- what begins with a comma is fields
pub is_body : (cs : List ℕ) → IsTrue (list_all is_body_byte cs) → IsBody (44 ∷ cs)
is_body cs h = record {
  fields = field_at_front cs ∷ fields_of cs;
  bytes = All-cons (λ field. IsTrue (list_all is_field_byte field)) (field_at_front cs) (fields_of cs) (front_passes cs h) (fields_pass cs h);
  spelled = sym (flat_map-cons (λ field. 44 ∷ field) (field_at_front cs) (fields_of cs) ∙ ap (λ (x : List ℕ). 44 ∷ x) (body_of-fields_of cs));
}
