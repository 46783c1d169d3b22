-- What is a sentence is read.
use Rattle.std.proofs.Common.{◌≡◌, ℕ, ◌+◌, ◌*◌, ◌<◌, ◌≤◌, true, false, ltb, leb, ◌&&◌, List, [], ◌∷◌, ◌++◌, length, take, drop, All, Option, None, Ok, refl, sym, ap, subst, ◌∙◌, append_assoc, arith, inl, inr}
use Rattle.std.specs.Prelude.{IsTrue, ◌==◌, not, slice_index, ◌⊎◌}
use Rattle.std.specs.Char.{digit_value}
use Rattle.std.specs.List.{prefix_len, list_all}
use Rattle.std.specs.Option.{option_or}
use Rattle.std.proofs.lemmas.Bool.{le-ltb, lt-leb, le-leb, eq-eqb, and_parts, and_from, or_left, or_right}
use Rattle.std.proofs.lemmas.List.{take_at, drop_at}
use Rattle.std.proofs.lemmas.List.Elements.{All-head, All-tail}
use Rattle.std.proofs.lemmas.List.Concat.{flat_map-cons}
use Rattle.sentence_text.specs.declared.fault.SentenceFault.{SentenceFault}
use Rattle.sentence_text.specs.Byte.{is_address_byte, is_body_byte, is_field_byte}
use Rattle.sentence_text.specs.Sentence.{SentenceParts, longest_line, body_of, content, xor_of, IsAddress, IsBody, IsSentence, spelling}
use Rattle.sentence_text.specs.Reading.{is_start, ends_address, address_len, has_address, front_fault, content_at, behind_content, end_fault, tail_fault, fault_of, parts_at, read_as, read}
use Rattle.sentence_text.proofs.Bytes.{Splits, splits, all_append, all_weaker}
use Rattle.sentence_text.specs.Sum.{sum_fault}
use Rattle.sentence_text.proofs.Sums.{sum_again}
use Rattle.sentence_text.proofs.Run.{is_body}

abbrev ending : ℕ → ℕ → List ℕ
ending high low = 42 ∷ high ∷ low ∷ 13 ∷ 10 ∷ []

-- ---- the bytes of the content

field_weaker : (c : ℕ) → is_field_byte c ≡ true → is_body_byte c ≡ true
field_weaker c h = (and_parts (is_body_byte c) (not (c == 44)) h).0

abbrev IsField : List ℕ → Type 0
IsField field = IsTrue (list_all is_field_byte field)

fields_pass : (fields : List (List ℕ)) → All IsField fields → list_all is_body_byte (body_of fields) ≡ true
fields_pass [] h = refl
fields_pass (f ∷ fs) h =
    let front = all_weaker is_field_byte is_body_byte field_weaker f (All-head IsField f fs h) in
    subst (λ (x : List ℕ). list_all is_body_byte x ≡ true) (sym (flat_map-cons (λ field. 44 ∷ field) f fs)) (all_append is_body_byte (44 ∷ f) (body_of fs) front (fields_pass fs (All-tail IsField f fs h)))

body_passes : (body : List ℕ) → IsBody body → list_all is_body_byte body ≡ true
body_passes body h = subst (λ (x : List ℕ). list_all is_body_byte x ≡ true) (sym h.spelled) (fields_pass h.fields h.bytes)

pub content_passes : (p : SentenceParts) → IsAddress (p.talker ++ p.formatter) → IsBody p.body → list_all is_body_byte (content p) ≡ true
content_passes p address body =
    let front = all_weaker is_address_byte is_body_byte is_body (p.talker ++ p.formatter) address.bytes in
    subst (λ (x : List ℕ). list_all is_body_byte x ≡ true) (append_assoc p.talker p.formatter p.body) (all_append is_body_byte (p.talker ++ p.formatter) p.body front (body_passes p.body body))

-- ---- where the address ends

record Stops (text : List ℕ) : Type 0 where
  run : prefix_len is_address_byte text ≡ 0
  ends : ends_address text ≡ true

fields_stop : (fields : List (List ℕ)) (tail : List ℕ) → Stops (body_of fields ++ 42 ∷ tail)
fields_stop [] tail = record { run = refl; ends = refl }
fields_stop (f ∷ fs) tail = subst (λ (x : List ℕ). Stops (x ++ 42 ∷ tail)) (sym (flat_map-cons (λ field. 44 ∷ field) f fs)) (record { run = refl; ends = refl })

body_stops : (body tail : List ℕ) → IsBody body → Stops (body ++ 42 ∷ tail)
body_stops body tail h = subst (λ (x : List ℕ). Stops (x ++ 42 ∷ tail)) (sym h.spelled) (fields_stop h.fields tail)

-- ---- no rule is broken

front_again : (line : List ℕ) → length line ≤ longest_line → is_start (slice_index line 0) ≡ true → has_address line ≡ true → front_fault line ≡ None
unfolding front_fault
front_again line short starts address =
    let a : ltb longest_line (length line) ≡ false = le-ltb longest_line (length line) short in
    rw (a, starts, address) refl

end_again : (high low place : ℕ) → end_fault (ending high low) place ≡ None
unfolding end_fault
end_again high low place = refl

tail_again : (sum high low place : ℕ) → sum_fault sum high low ≡ None → tail_fault sum (ending high low) place ≡ None
tail_again sum high low place e = rw e (end_again high low place)

starts_again : (c : ℕ) → (c ≡ 36) ⊎ (c ≡ 33) → is_start c ≡ true
starts_again c h = elim h [
  | inl e ↦ or_left (c == 36) (c == 33) (eq-eqb c 36 e)
  | inr e ↦ or_right (c == 36) (c == 33) (eq-eqb c 33 e)
]

-- ---- the parts again

record Again (p : SentenceParts) (line : List ℕ) : Type 0 where
  fine : fault_of line ≡ None
  same : parts_at line ≡ p

abbrev of_parts : ℕ → List ℕ → List ℕ → List ℕ → SentenceParts
of_parts start talker formatter body = record { start = start; talker = talker; formatter = formatter; body = body }

again : (p : SentenceParts) (high low : ℕ) → IsSentence p (spelling p high low) → digit_value high < 16 → digit_value low < 16
    → digit_value high * 16 + digit_value low ≡ xor_of (content p) → Again p (spelling p high low)
again p high low h hd ld e =
    let line = spelling p high low in
    let address = p.talker ++ p.formatter in
    let joined : address ++ p.body ≡ content p = append_assoc p.talker p.formatter p.body in
    let c = splits is_body_byte (content p) (ending high low) (content_passes p h.address h.body) refl in
    let stops = body_stops p.body (high ∷ low ∷ 13 ∷ 10 ∷ []) h.body in
    let a0 = splits is_address_byte address (p.body ++ ending high low) h.address.bytes stops.run in
    let whole : address ++ (p.body ++ ending high low) ≡ content p ++ ending high low = sym (append_assoc address p.body (ending high low)) ∙ ap (λ (x : List ℕ). x ++ ending high low) joined in
    let a : Splits is_address_byte (content p ++ ending high low) address (p.body ++ ending high low) = subst (λ (x : List ℕ). Splits is_address_byte x address (p.body ++ ending high low)) whole a0 in
    let len : address_len line ≡ length address = a.run in
    let n = address_len line in
    let least : leb 3 n ≡ true = le-leb 3 n (omega (arith, len, h.address.least)) in
    let most : leb n 12 ≡ true = le-leb n 12 (omega (arith, len, h.address.most)) in
    let ends : ends_address (drop n (drop 1 line)) ≡ true = subst (λ (x : List ℕ). ends_address x ≡ true) (sym a.tail_is) stops.ends in
    let has : has_address line ≡ true = and_from (leb 3 n && leb n 12) (ends_address (drop n (drop 1 line))) (and_from (leb 3 n) (leb n 12) least most) ends in
    let front = front_again line h.most (starts_again p.start h.starts) has in
    let sum : sum_fault (xor_of (content_at line)) high low ≡ None = sum_again (xor_of (content_at line)) high low hd ld (e ∙ ap xor_of (sym c.front_is)) in
    let tail : tail_fault (xor_of (content_at line)) (behind_content line) (1 + length (content_at line)) ≡ None =
    subst (λ (t : List ℕ). tail_fault (xor_of (content_at line)) t (1 + length (content_at line)) ≡ None) (sym c.tail_is) (tail_again (xor_of (content_at line)) high low (1 + length (content_at line)) sum) in
    let taken : take n (content_at line) ≡ address =
    ap (λ (x : List ℕ). take n x) (c.front_is ∙ sym joined) ∙ take_at address p.body n (sym len) in
    let left : drop n (content_at line) ≡ p.body =
    ap (λ (x : List ℕ). drop n x) (c.front_is ∙ sym joined) ∙ drop_at address p.body n (sym len) in
    let talker : take 2 (take n (content_at line)) ≡ p.talker = ap (λ (x : List ℕ). take 2 x) taken ∙ take_at p.talker p.formatter 2 h.talker in
    let formatter : drop 2 (take n (content_at line)) ≡ p.formatter = ap (λ (x : List ℕ). drop 2 x) taken ∙ drop_at p.talker p.formatter 2 h.talker in
    record {
      fine = ap (λ (f : Option SentenceFault). option_or f (tail_fault (xor_of (content_at line)) (behind_content line) (1 + length (content_at line)))) front ∙ tail;
      same = ap (λ (x : List ℕ). of_parts p.start x (drop 2 (take n (content_at line))) (drop n (content_at line))) talker
          ∙ ap (λ (x : List ℕ). of_parts p.start p.talker x (drop n (content_at line))) formatter
          ∙ ap (λ (x : List ℕ). of_parts p.start p.talker p.formatter x) left;
    }

pub only : (line : List ℕ) (p : SentenceParts) → IsSentence p line → read line ≡ Ok p
only line p h =
    let spelled = subst (λ (x : List ℕ). IsSentence p x) h.spelled h in
    let a = again p h.high h.low spelled h.high_digit h.low_digit h.sum in
    ap read h.spelled ∙ ap (λ (f : Option SentenceFault). read_as f (parts_at (spelling p h.high h.low))) a.fine ∙ ap (λ (x : SentenceParts). read_as None x) a.same
