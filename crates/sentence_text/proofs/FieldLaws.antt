-- Counting commas to a field.
use Rattle.std.proofs.Common.{◌≡◌, ℕ, zero, suc, ◌+◌, ◌-◌, ◌<◌, ◌≤◌, true, false, cond, List, [], ◌∷◌, length, get_or, drop, drop-cons, Some, None, refl, sym, ap, ◌∙◌, add-one, arith, inl, inr}
use Rattle.std.specs.Prelude.{slice_get, ◌==◌, count_by}
use Rattle.std.proofs.lemmas.Bool.{cases_Bool, eq-eqb, ne_eqb}
use Rattle.std.proofs.lemmas.List.Sums.{sum_by-cons}
use Rattle.std.proofs.Math.ListN.{drop_of_length-le}
use Rattle.sentence_text.specs.Fields.{field_at_front, fields_of, field_of}
use Rattle.sentence_text.proofs.Fields.{fields_at_comma, fields_before_comma}

abbrev weight : ℕ → ℕ
weight c = cond (c == 44) 1 0

weight_at_comma : (c : ℕ) → (c == 44) ≡ true → weight c ≡ 1
weight_at_comma c e = rw e refl

weight_elsewhere : (c : ℕ) → (c == 44) ≡ false → weight c ≡ 0
weight_elsewhere c e = rw e refl

pub count_fields : (bytes : List ℕ) → count_by (λ c. c == 44) bytes ≡ length (fields_of bytes)
count_fields [] = refl
count_fields (c ∷ cs) = elim (cases_Bool (c == 44)) [
  | inl e ↦ omega (arith, sum_by-cons weight c cs, weight_at_comma c e, ap length (fields_at_comma c cs e), count_fields cs)
  | inr e ↦ omega (arith, sum_by-cons weight c cs, weight_elsewhere c e, ap length (fields_before_comma c cs e), count_fields cs)
]

-- from here on the field of this number is the one that is looked for
pub record Seeks (body : List ℕ) (comma place left : ℕ) : Type 0 where
  pub more : 0 < left
  pub same : field_of (drop place body) left ≡ field_of body comma

here : (body : List ℕ) (place : ℕ) → place < length body → drop place body ≡ get_or body place 0 ∷ drop (place + 1) body
here body place lt = drop-cons body place 0 lt ∙ ap (λ (n : ℕ). get_or body place 0 ∷ drop n body) (sym (add-one place))

pub starts : (body : List ℕ) (comma : ℕ) → 0 < comma → Seeks body comma 0 comma
starts body comma more = record { more = more; same = refl }

field_goes_on : (c left : ℕ) (cs : List ℕ) → (c == 44) ≡ false → 0 < left → field_of (c ∷ cs) left ≡ field_of cs left
field_goes_on c zero cs e more = absurd (omega arith)
field_goes_on c (suc n) cs e more = ap (λ (fs : List (List ℕ)). slice_get fs n) (fields_before_comma c cs e)

pub goes_on : (body : List ℕ) (comma place left : ℕ) → place < length body → (get_or body place 0 ≡ 44 → ⊥) → Seeks body comma place left → Seeks body comma (place + 1) left
goes_on body comma place left lt other s =
    let c = get_or body place 0 in
    record { more = s.more; same = sym (field_goes_on c left (drop (place + 1) body) (ne_eqb c 44 other) s.more) ∙ ap (λ (x : List ℕ). field_of x left) (sym (here body place lt)) ∙ s.same }

field_passes : (c left : ℕ) (cs : List ℕ) → (c == 44) ≡ true → 0 < left - 1 → field_of (c ∷ cs) left ≡ field_of cs (left - 1)
field_passes c zero cs e more = absurd (omega arith)
field_passes c (suc zero) cs e more = absurd (omega arith)
field_passes c (suc (suc n)) cs e more = ap (λ (fs : List (List ℕ)). slice_get fs (suc n)) (fields_at_comma c cs e) ∙ ap (field_of cs) (let k : suc n ≡ suc (suc n) - 1 = omega arith in k)

pub passes : (body : List ℕ) (comma place left : ℕ) → place < length body → get_or body place 0 ≡ 44 → (left - 1 ≡ 0 → ⊥) → Seeks body comma place left → Seeks body comma (place + 1) (left - 1)
passes body comma place left lt is more s =
    let c = get_or body place 0 in
    let some : 0 < left - 1 = omega arith in
    record { more = some; same = sym (field_passes c left (drop (place + 1) body) (eq-eqb c 44 is) some) ∙ ap (λ (x : List ℕ). field_of x left) (sym (here body place lt)) ∙ s.same }

field_found : (c left : ℕ) (cs : List ℕ) → (c == 44) ≡ true → left ≡ 1 → field_of (c ∷ cs) left ≡ Some (field_at_front cs)
field_found c left cs e one = rw one (ap (λ (fs : List (List ℕ)). slice_get fs 0) (fields_at_comma c cs e))

pub is_here : (body : List ℕ) (comma place left : ℕ) → place < length body → get_or body place 0 ≡ 44 → left - 1 ≡ 0 → Seeks body comma place left → Some (field_at_front (drop (place + 1) body)) ≡ field_of body comma
is_here body comma place left lt is none s =
    let c = get_or body place 0 in
    sym (field_found c left (drop (place + 1) body) (eq-eqb c 44 is) (omega (arith, s.more))) ∙ ap (λ (x : List ℕ). field_of x left) (sym (here body place lt)) ∙ s.same

field_of-nil : (left : ℕ) → field_of [] left ≡ None
field_of-nil zero = refl
field_of-nil (suc n) = refl

pub is_none : (body : List ℕ) (comma place left : ℕ) → length body ≤ place → Seeks body comma place left → None ≡ field_of body comma
is_none body comma place left le s =
    sym (field_of-nil left) ∙ ap (λ (x : List ℕ). field_of x left) (sym (drop_of_length-le body le)) ∙ s.same
