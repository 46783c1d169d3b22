-- A fault of a sentence is in its text, or at its end.
use Rattle.std.proofs.Common.{◌≡◌, ℕ, suc, ◌+◌, ◌<◌, ◌≤◌, min, List, [], ◌∷◌, length, length-drop, Option, Some, None, Result, Ok, Err, refl, sym, ap, ◌∙◌, subst, arith, inl, inr}
use Rattle.std.specs.Prelude.{◌==◌, ◌||◌, nat_lt, slice_index, IfErr}
use Rattle.std.specs.List.{prefix_len}
use Rattle.std.specs.Option.{option_or}
use Rattle.std.proofs.lemmas.Bool.{cases_Bool, eqb-true, ltb-true}
use Rattle.std.proofs.lemmas.List.{length-take}
use Rattle.std.proofs.lemmas.List.Sums.{prefix_len-le-length}
use Rattle.sentence_text.specs.declared.sum.SumFault.{SumFault}
use Rattle.sentence_text.specs.declared.sum.SumFault.TheVariants.{First, Second, Differs}
use Rattle.sentence_text.specs.Sum.{sum_fault}
use Rattle.sentence_text.proofs.Sums.{sum_found, first_digit, is_there, digit_there}
use Rattle.sentence_text.proofs.Found.{star_none, sum_none}
use Rattle.sentence_text.specs.declared.fault.SentenceFault.{SentenceFault}
use Rattle.sentence_text.specs.declared.sentence.Sentence.{Sentence}
use Rattle.sentence_text.specs.Byte.{is_address_byte, is_body_byte}
use Rattle.sentence_text.specs.Sentence.{SentenceParts, longest_line, xor_of}
use Rattle.sentence_text.specs.Reading.{is_start, address_len, has_address, front_fault, star_fault, sum_fault_from, sum_fault_at, end_fault, tail_fault, content_at, behind_content, fault_of, parts_at, read_as, read, seen}

abbrev IsIn : ℕ → Option SentenceFault → Type 0
IsIn most None = Unit {0}
IsIn most (Some f) = f.place ≤ most

-- the second is tried where the first is none
first_in : (most : ℕ) (a b : Option SentenceFault) → IsIn most a → (a ≡ None → IsIn most b) → IsIn most (option_or a b)
first_in most None b h k = k refl
first_in most (Some f) b h k = h

address_in : (c : ℕ) (cs : List ℕ) → 1 + min (address_len (c ∷ cs)) 12 ≤ length (c ∷ cs)
address_in c cs = omega (arith, prefix_len-le-length is_address_byte cs)

front_in : (bytes : List ℕ) → IsIn (length bytes) (front_fault bytes)
unfolding front_fault
front_in [] = omega arith
front_in (c ∷ cs) = elim (cases_Bool (nat_lt longest_line (length (c ∷ cs)))) [
  | inl e ↦ rw e (omega (arith, ltb-true longest_line (length (c ∷ cs)) e))
  | inr e ↦ rw e (elim (cases_Bool (is_start c)) [
    | inr f ↦ rw f (omega arith)
    | inl f ↦ rw f (elim (cases_Bool (has_address (c ∷ cs))) [
      | inr g ↦ rw g (address_in c cs)
      | inl g ↦ rw g tt
    ])
  ])
]

star_in : (most : ℕ) (tail : List ℕ) (place : ℕ) → place ≤ most → IsIn most (star_fault tail place)
star_in most [] place le = le
star_in most (c ∷ cs) place le = elim (cases_Bool (c == 42)) [
  | inl e ↦ rw e tt
  | inr e ↦ rw e (elim (cases_Bool (c == 13 || c == 10)) [
    | inl f ↦ rw f le
    | inr f ↦ rw f le
  ])
]

sum_in : (most sum : ℕ) (tail : List ℕ) (place : ℕ) → place + length tail ≤ most → 0 < length tail → (f : Option SumFault) → sum_fault sum (slice_index tail 1) (slice_index tail 2) ≡ f → IsIn most (sum_fault_from place f)
sum_in most sum tail place le some None e = tt
sum_in most sum tail place le some (Some First) e = omega (arith, le, some)
sum_in most sum tail place le some (Some Second) e = omega (arith, le, digit_there tail 1 (first_digit sum (slice_index tail 1) (slice_index tail 2) e))
sum_in most sum tail place le some (Some Differs) e = omega (arith, le, some)

byte_there : (bytes : List ℕ) (n c : ℕ) → slice_index bytes n ≡ suc c → n < length bytes
byte_there bytes n c e = is_there bytes n (λ none. let other : suc c ≡ 0 = sym e ∙ none in omega (arith, other))

end_in : (most : ℕ) (tail : List ℕ) (place : ℕ) → place + length tail ≤ most → 2 < length tail → IsIn most (end_fault tail place)
unfolding end_fault
end_in most tail place le some = elim (cases_Bool (slice_index tail 3 == 13)) [
  | inr f ↦ rw f (omega (arith, le, some))
  | inl f ↦ rw f (elim (cases_Bool (slice_index tail 4 == 10)) [
    | inr g ↦ rw g (omega (arith, le, byte_there tail 3 12 (eqb-true (slice_index tail 3) 13 f)))
    | inl g ↦ rw g (elim (cases_Bool (nat_lt 5 (length tail))) [
      | inl i ↦ rw i (omega (arith, le, ltb-true 5 (length tail) i))
      | inr i ↦ rw i tt
    ])
  ])
]

tail_in : (most sum : ℕ) (tail : List ℕ) (place : ℕ) → place + length tail ≤ most → IsIn most (tail_fault sum tail place)
tail_in most sum tail place le =
    let faults = sum_fault sum (slice_index tail 1) (slice_index tail 2) in
    first_in most (star_fault tail place) (option_or (sum_fault_at sum tail place) (end_fault tail place)) (star_in most tail place (omega (arith, le)))
    (λ star.
    let found = star_none tail place star in
    let some : 0 < length tail = omega (arith, ap length found.1) in
    first_in most (sum_fault_at sum tail place) (end_fault tail place) (sum_in most sum tail place le some faults refl)
    (λ summed. end_in most tail place le (digit_there tail 2 (sum_found sum (slice_index tail 1) (slice_index tail 2) (sum_none place faults summed)).low_digit)))

no_front : front_fault [] ≡ None → ⊥
unfolding front_fault
no_front e = cc

fault_in : (bytes : List ℕ) → IsIn (length bytes) (fault_of bytes)
fault_in bytes = first_in (length bytes) (front_fault bytes) (tail_fault (xor_of (content_at bytes)) (behind_content bytes) (1 + length (content_at bytes))) (front_in bytes) (λ none. behind bytes none)
  where
    behind : (bytes : List ℕ) → front_fault bytes ≡ None → IsIn (length bytes) (tail_fault (xor_of (content_at bytes)) (behind_content bytes) (1 + length (content_at bytes)))
    behind [] none = absurd (no_front none)
    behind (c ∷ cs) none =
        let n = prefix_len is_body_byte cs in
        tail_in (length (c ∷ cs)) (xor_of (content_at (c ∷ cs))) (behind_content (c ∷ cs)) (1 + length (content_at (c ∷ cs)))
        (omega (arith, prefix_len-le-length is_body_byte cs, length-take n cs, length-drop n cs))

read_in : (most : ℕ) (f : Option SentenceFault) (p : SentenceParts) (r : Result Sentence SentenceFault) → IsIn most f → seen r ≡ read_as f p → IfErr r (λ x. x.place ≤ most)
read_in most f p (Ok s) h e = tt
read_in most None p (Err x) h e = absurd cc
read_in most (Some f) p (Err x) h e = rw (fault_same p x f e) h
  where
    fault_same : (p : SentenceParts) (x f : SentenceFault) → read_as (Some x) p ≡ read_as (Some f) p → x ≡ f
    fault_same p x f e = cc

pub sentence_place : (bytes : List ℕ) (r : Result Sentence SentenceFault) → seen r ≡ read bytes → IfErr r (λ x. x.place ≤ length bytes)
sentence_place bytes r e = read_in (length bytes) (fault_of bytes) (parts_at bytes) r (fault_in bytes) e

pub sentence_fault : (bytes : List ℕ) (x : SentenceFault) → fault_of bytes ≡ Some x → x.place ≤ length bytes
sentence_fault bytes x e = subst (λ (f : Option SentenceFault). IsIn (length bytes) f) e (fault_in bytes)
