-- What is read is a sentence.
use Rattle.std.proofs.Common.{◌≡◌, ℕ, ◌+◌, ◌*◌, ◌<◌, ◌≤◌, Bool, true, false, cond, ltb, leb, ◌&&◌, ◌||◌, List, [], ◌∷◌, ◌++◌, length, take, drop, Option, Some, None, Result, Ok, Err, refl, sym, ap, subst, ◌∙◌, append_assoc, length-take, arith, inl, inr}
use Rattle.std.specs.Prelude.{IsTrue, ◌==◌, not, slice_index, ◌⊎◌, IfOk}
use Rattle.sentence_text.specs.declared.sentence.Sentence.{Sentence}
use Rattle.std.specs.Char.{digit_value}
use Rattle.std.specs.List.{prefix_len, list_all}
use Rattle.std.specs.Option.{option_or}
use Rattle.std.proofs.lemmas.Bool.{cases_Bool, ltb-false, leb-true, leb-false, eqb-true, and_parts, or_cases, not-false, true≢false}
use Rattle.std.proofs.lemmas.List.{take-append-drop, take-append-le, drop-append-le}
use Rattle.std.proofs.lemmas.List.Folds.{length-prefix_len}
use Rattle.std.proofs.lemmas.List.Elements.{All-nil}
use Rattle.sentence_text.specs.declared.fault.SentenceFault.{SentenceFault}
use Rattle.sentence_text.specs.declared.fault.SentenceRule.TheVariants as rules
use Rattle.sentence_text.specs.Byte.{is_address_byte, is_body_byte, is_field_byte}
use Rattle.sentence_text.specs.Sentence.{SentenceParts, xor_of, longest_line, IsAddress, IsBody, IsSentence}
use Rattle.sentence_text.specs.Reading.{is_start, ends_address, address_len, has_address, front_fault, content_at, behind_content, star_fault, sum_fault_from, sum_fault_at, end_fault, tail_fault, fault_of, parts_at, read_as, read, parts, seen}
use Rattle.sentence_text.proofs.Bytes.{front_passes, all_parts}
use Rattle.sentence_text.specs.declared.sum.SumFault.{SumFault}
use Rattle.sentence_text.specs.Sum.{sum_fault}
use Rattle.sentence_text.proofs.Sums.{sum_found}
use Rattle.sentence_text.proofs.Fields.{is_body}
use Rattle.sentence_text.proofs.Run.{address_within}

-- ---- what no fault says

both_none : (a b : Option SentenceFault) → option_or a b ≡ None → (a ≡ None) × (b ≡ None)
both_none None b e = (refl, e)
both_none (Some f) b e = absurd cc

guard : (b : Bool) (f : SentenceFault) (rest : Option SentenceFault) → cond b (Some f) rest ≡ None → (b ≡ false) × (rest ≡ None)
guard true f rest e = absurd cc
guard false f rest e = (refl, e)

some_fault : (b : Bool) (f g : SentenceFault) → cond b (Some f) (Some g) ≡ None → ⊥
some_fault true f g e = cc
some_fault false f g e = cc

record Front (line : List ℕ) : Type 0 where
  short : length line ≤ longest_line
  starts : is_start (slice_index line 0) ≡ true
  address : has_address line ≡ true

front_none : (line : List ℕ) → front_fault line ≡ None → Front line
unfolding front_fault
front_none line e =
    let a = guard (ltb longest_line (length line)) _ _ e in
    let b = guard (not (is_start (slice_index line 0))) _ _ a.1 in
    let c = guard (not (has_address line)) _ _ b.1 in
    record { short = ltb-false longest_line (length line) a.0; starts = not-false (is_start (slice_index line 0)) b.0; address = not-false (has_address line) c.0 }

pub star_none : (tail : List ℕ) (place : ℕ) → star_fault tail place ≡ None → (rest : List ℕ) × (tail ≡ 42 ∷ rest)
star_none [] place e = absurd cc
star_none (c ∷ cs) place e = elim (cases_Bool (c == 42)) [
  | inl star ↦ (cs, ap (λ (x : ℕ). x ∷ cs) (eqb-true c 42 star))
  | inr other ↦ absurd (some_fault (c == 13 || c == 10) (record { rule = rules.NoSum; place = place }) (record { rule = rules.Byte; place = place }) (rw other at e))
]

pub sum_none : (place : ℕ) (f : Option SumFault) → sum_fault_from place f ≡ None → f ≡ None
sum_none place None e = refl
sum_none place (Some f) e = absurd cc

record End (tail : List ℕ) : Type 0 where
  cr : slice_index tail 3 ≡ 13
  lf : slice_index tail 4 ≡ 10
  short : length tail ≤ 5

end_none : (tail : List ℕ) (place : ℕ) → end_fault tail place ≡ None → End tail
unfolding end_fault
end_none tail place e =
    let a = guard (not (slice_index tail 3 == 13)) _ _ e in
    let b = guard (not (slice_index tail 4 == 10)) _ _ a.1 in
    let c = guard (ltb 5 (length tail)) _ _ b.1 in
    record { cr = eqb-true (slice_index tail 3) 13 (not-false _ a.0); lf = eqb-true (slice_index tail 4) 10 (not-false _ b.0); short = ltb-false 5 (length tail) c.0 }

-- ---- the pieces of the line

tail_is : (rest : List ℕ) → End (42 ∷ rest) → 42 ∷ rest ≡ 42 ∷ slice_index (42 ∷ rest) 1 ∷ slice_index (42 ∷ rest) 2 ∷ 13 ∷ 10 ∷ []
tail_is [] e = absurd (omega (arith, e.cr))
tail_is (h ∷ []) e = absurd (omega (arith, e.cr))
tail_is (h ∷ l ∷ []) e = absurd (omega (arith, e.cr))
tail_is (h ∷ l ∷ c ∷ []) e = absurd (omega (arith, e.lf))
tail_is (h ∷ l ∷ c ∷ d ∷ []) e = rw (e.cr, e.lf) refl
tail_is (h ∷ l ∷ c ∷ d ∷ x ∷ more) e = absurd (omega (arith, e.short))

line_front : (line : List ℕ) → is_start (slice_index line 0) ≡ true → line ≡ slice_index line 0 ∷ drop 1 line
line_front [] e = absurd cc
line_front (c ∷ cs) e = refl

-- the line behind its start, in its three pieces
record Pieces (line : List ℕ) : Type 0 where
  address : List ℕ
  body : List ℕ
  content_is : content_at line ≡ address ++ body
  address_bytes : list_all is_address_byte address ≡ true
  body_bytes : list_all is_body_byte body ≡ true
  address_is : take (address_len line) (content_at line) ≡ address
  body_is : drop (address_len line) (content_at line) ≡ body
  len : length address ≡ address_len line
  rest_is : drop (address_len line) (drop 1 line) ≡ body ++ behind_content line

pieces : (line : List ℕ) → Pieces line
pieces line =
    let rest = drop 1 line in
    let a = address_len line in
    let content = content_at line in
    let n = prefix_len is_body_byte rest in
    let whole : content ++ behind_content line ≡ rest = take-append-drop n rest in
    let len : length content ≡ n = length-prefix_len is_body_byte rest in
    let within : a ≤ length content = omega (arith, len, address_within line) in
    let front : take a content ≡ take a rest = sym (take-append-le a content (behind_content line) within) ∙ ap (take a) whole in
    let back : drop a rest ≡ drop a content ++ behind_content line = ap (drop a) (sym whole) ∙ drop-append-le a content (behind_content line) within in
    let parted : take a content ++ drop a content ≡ content = take-append-drop a content in
    let passes : list_all is_body_byte (take a content ++ drop a content) ≡ true = rw parted (front_passes is_body_byte rest) in
    record {
      address = take a content;
      body = drop a content;
      content_is = sym parted;
      address_bytes = rw front (front_passes is_address_byte rest);
      body_bytes = (all_parts is_body_byte (take a content) (drop a content) passes).1;
      address_is = refl;
      body_is = refl;
      len = omega (arith, length-take a content, within);
      rest_is = back;
    }

-- an address ends where its fields begin, or at `*`
body_from : (body tail : List ℕ) → list_all is_body_byte body ≡ true → ends_address (body ++ 42 ∷ tail) ≡ true → IsBody body
body_from [] tail h e = record { fields = []; bytes = All-nil (λ field. IsTrue (list_all is_field_byte field)); spelled = refl }
body_from (c ∷ cs) tail h e =
    let p = and_parts (is_body_byte c) (list_all is_body_byte cs) h in
    elim (or_cases (c == 44) (c == 42) e) [
      | inl comma ↦ subst (λ (x : ℕ). IsBody (x ∷ cs)) (sym (eqb-true c 44 comma)) (is_body cs p.1)
      | inr star ↦ absurd (true≢false (sym (subst (λ (x : ℕ). is_body_byte x ≡ true) (eqb-true c 42 star) p.0)))
    ]

starts_either : (c : ℕ) → is_start c ≡ true → (c ≡ 36) ⊎ (c ≡ 33)
starts_either c e = elim (or_cases (c == 36) (c == 33) e) [
  | inl dollar ↦ inl (eqb-true c 36 dollar)
  | inr mark ↦ inr (eqb-true c 33 mark)
]

pub found : (line : List ℕ) → fault_of line ≡ None → IsSentence (parts_at line) line
found line e =
    let tail = behind_content line in
    let place = 1 + length (content_at line) in
    let sum = xor_of (content_at line) in
    let outer = both_none (front_fault line) (tail_fault sum tail place) e in
    let inner = both_none (star_fault tail place) (option_or (sum_fault_at sum tail place) (end_fault tail place)) outer.1 in
    let last = both_none (sum_fault_at sum tail place) (end_fault tail place) inner.1 in
    let front = front_none line outer.0 in
    let star = star_none tail place inner.0 in
    let sums = sum_found sum (slice_index tail 1) (slice_index tail 2) (sum_none place (sum_fault sum (slice_index tail 1) (slice_index tail 2)) last.0) in
    let ends = end_none tail place last.1 in
    let p = pieces line in
    let a = address_len line in
    let address = take a (content_at line) in
    let body = drop a (content_at line) in
    let q = and_parts (leb 3 a && leb a 12) (ends_address (drop a (drop 1 line))) front.address in
    let r = and_parts (leb 3 a) (leb a 12) q.0 in
    let least : 3 ≤ a = leb-true 3 a r.0 in
    let most : a ≤ 12 = leb-true a 12 r.1 in
    let len : length address ≡ a = ap length p.address_is ∙ p.len in
    let joined : take 2 address ++ drop 2 address ≡ address = take-append-drop 2 address in
    let is_address : IsAddress address = record { least = omega (arith, len, least); most = omega (arith, len, most); bytes = subst (λ (x : List ℕ). list_all is_address_byte x ≡ true) (sym p.address_is) p.address_bytes } in
    let follows : ends_address (p.body ++ 42 ∷ star.0) ≡ true = subst (λ (x : List ℕ). ends_address x ≡ true) (p.rest_is ∙ ap (λ (x : List ℕ). p.body ++ x) star.1) q.1 in
    let same : take 2 address ++ (drop 2 address ++ body) ≡ content_at line =
    sym (append_assoc (take 2 address) (drop 2 address) body) ∙ ap (λ (x : List ℕ). x ++ body) joined ∙ take-append-drop a (content_at line) in
    let five : tail ≡ 42 ∷ slice_index tail 1 ∷ slice_index tail 2 ∷ 13 ∷ 10 ∷ [] =
    subst (λ (t : List ℕ). t ≡ 42 ∷ slice_index t 1 ∷ slice_index t 2 ∷ 13 ∷ 10 ∷ []) (sym star.1) (tail_is star.0 (subst (λ (t : List ℕ). End t) star.1 ends)) in
    let behind : drop 1 line ≡ (take 2 address ++ (drop 2 address ++ body)) ++ 42 ∷ slice_index tail 1 ∷ slice_index tail 2 ∷ 13 ∷ 10 ∷ [] =
    sym (take-append-drop (prefix_len is_body_byte (drop 1 line)) (drop 1 line)) ∙ ap (λ (x : List ℕ). content_at line ++ x) five ∙ ap (λ (x : List ℕ). x ++ 42 ∷ slice_index tail 1 ∷ slice_index tail 2 ∷ 13 ∷ 10 ∷ []) (sym same) in
    record {
      starts = starts_either (slice_index line 0) front.starts;
      talker = omega (arith, length-take 2 address, len, least);
      address = subst (λ (x : List ℕ). IsAddress x) (sym joined) is_address;
      body = subst (λ (x : List ℕ). IsBody x) (sym p.body_is) (body_from p.body star.0 p.body_bytes follows);
      high = slice_index tail 1;
      low = slice_index tail 2;
      high_digit = sums.high_digit;
      low_digit = sums.low_digit;
      sum = sums.is ∙ ap xor_of (sym same);
      spelled = line_front line front.starts ∙ ap (λ (x : List ℕ). slice_index line 0 ∷ x) behind;
      most = front.short;
    }

abbrev said : SentenceParts → Result SentenceParts SentenceFault
said p = Ok p

parts_is : (p q : SentenceParts) → said p ≡ said q → p ≡ q
parts_is p q e = cc

read_ok : (f : Option SentenceFault) (p q : SentenceParts) → read_as f p ≡ Ok q → (f ≡ None) × (p ≡ q)
read_ok None p q e = (refl, parts_is p q e)
read_ok (Some f) p q e = absurd cc

pub is_found : (line : List ℕ) (result : Result Sentence SentenceFault) → seen result ≡ read line → IfOk result (λ s. IsSentence (parts s) line)
is_found line (Ok s) e =
    let k = read_ok (fault_of line) (parts_at line) (parts s) (sym e) in
    subst (λ (p : SentenceParts). IsSentence p line) k.1 (found line k.0)
is_found line (Err f) e = tt
