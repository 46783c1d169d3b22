-- Going over the bytes of fields, and their sum.
use Rattle.std.proofs.Common.{◌≡◌, ℕ, suc, ◌+◌, ◌<◌, ◌≤◌, true, false, List, [], ◌∷◌, length, get_or, take, drop, drop-cons, refl, sym, ap, ◌∙◌, add-one, arith, inl, inr}
use Rattle.std.specs.Prelude.{bit_xor}
use Rattle.std.specs.List.{prefix_len}
use Rattle.std.proofs.lemmas.List.Sums.{fold_more, prefix_len-drop_all}
use Rattle.std.proofs.lemmas.Bool.{cases_Bool}
use Rattle.sentence_text.specs.Byte.{is_address_byte, is_body_byte}
use Rattle.sentence_text.specs.Sentence.{xor_of}

-- so many bytes are passed, and their sum is known
pub record BodyRun (bytes : List ℕ) (count sum : ℕ) : Type 0 where
  pub passed : count + prefix_len is_body_byte (drop count bytes) ≡ prefix_len is_body_byte bytes
  pub sum_is : sum ≡ xor_of (take count bytes)

prefix_step : (c : ℕ) (cs : List ℕ) → is_body_byte c ≡ true → prefix_len is_body_byte (c ∷ cs) ≡ 1 + prefix_len is_body_byte cs
prefix_step c cs e = rw e refl

prefix_stop : (c : ℕ) (cs : List ℕ) → is_body_byte c ≡ false → prefix_len is_body_byte (c ∷ cs) ≡ 0
prefix_stop c cs e = rw e refl

pub run_starts : (bytes : List ℕ) → BodyRun bytes 0 0
run_starts bytes = record { passed = omega arith; sum_is = refl }

pub run_goes_on : (bytes : List ℕ) (count sum : ℕ) → count < length bytes → is_body_byte (get_or bytes count 0) ≡ true
    → BodyRun bytes count sum → BodyRun bytes (count + 1) (bit_xor sum (get_or bytes count 0))
run_goes_on bytes count sum lt e r =
    let front : prefix_len is_body_byte (drop count bytes) ≡ 1 + prefix_len is_body_byte (drop (count + 1) bytes) =
    ap (prefix_len is_body_byte) (drop-cons bytes count 0 lt) ∙ prefix_step (get_or bytes count 0) (drop (suc count) bytes) e ∙ ap (λ (n : ℕ). 1 + prefix_len is_body_byte (drop n bytes)) (sym (add-one count)) in
    record { passed = omega (arith, front, r.passed); sum_is = ap (λ (x : ℕ). bit_xor x (get_or bytes count 0)) r.sum_is ∙ sym (fold_more bit_xor 0 bytes count 0 lt) }

pub run_stops : (bytes : List ℕ) (count sum : ℕ) → count < length bytes → is_body_byte (get_or bytes count 0) ≡ false
    → BodyRun bytes count sum → (count ≡ prefix_len is_body_byte bytes) × (sum ≡ xor_of (take count bytes))
run_stops bytes count sum lt e r =
    let front : prefix_len is_body_byte (drop count bytes) ≡ 0 = ap (prefix_len is_body_byte) (drop-cons bytes count 0 lt) ∙ prefix_stop (get_or bytes count 0) (drop (suc count) bytes) e in
    (omega (arith, front, r.passed), r.sum_is)

pub run_ends : (bytes : List ℕ) (count sum : ℕ) → length bytes ≤ count → BodyRun bytes count sum
    → (count ≡ prefix_len is_body_byte bytes) × (sum ≡ xor_of (take count bytes))
run_ends bytes count sum le r = (omega (arith, prefix_len-drop_all is_body_byte bytes count le, r.passed), r.sum_is)

pub is_body : (c : ℕ) → is_address_byte c ≡ true → is_body_byte c ≡ true
is_body c e = grind arith

address_run_within : (bytes : List ℕ) → prefix_len is_address_byte bytes ≤ prefix_len is_body_byte bytes
address_run_within [] = omega arith
address_run_within (c ∷ cs) = elim (cases_Bool (is_address_byte c)) [
  | inl e ↦ rw (e, is_body c e) (omega (arith, address_run_within cs))
  | inr e ↦ rw e (omega arith)
]

-- an address is in the content
pub address_within : (line : List ℕ) → prefix_len is_address_byte (drop 1 line) ≤ prefix_len is_body_byte (drop 1 line)
address_within line = address_run_within (drop 1 line)
