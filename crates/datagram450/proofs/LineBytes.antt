-- TAG blocks and a sentence are one line: they have no LF but the last.
use Rattle.std.proofs.Common.{◌≡◌, ℕ, ◌<◌, true, Bool, List, [], ◌∷◌, ◌++◌, All, refl, sym, ap, ◌∙◌, arith, inl, inr}
use Rattle.std.specs.Prelude.{◌==◌, not, IsTrue}
use Rattle.std.specs.Char.{digit_value}
use Rattle.std.specs.List.{list_all, flat_map}
use Rattle.std.proofs.lemmas.Bool.{cases_Bool, and_from, eqb-true}
use Rattle.std.proofs.lemmas.List.{append_assoc}
use Rattle.std.proofs.lemmas.List.Concat.{flat_map-cons}
use Rattle.std.proofs.lemmas.List.Elements.{All-head, All-tail}
use Rattle.sentence_text.specs.Byte.{is_address_byte, is_field_byte}
use Rattle.sentence_text.specs.Sentence.{SentenceParts, IsSentence, body_of}
use Rattle.sentence_text.proofs.Bytes.{all_append, all_weaker, all_parts}
use Rattle.tag_block.specs.Tag.{is_code_byte, is_value_byte, Parameter, IsParameter, parameter_text, Block, IsBlock, block_text, content, Said, IsTag}
use Rattle.datagram450.specs.Datagram.{IsLine, HasNoEnd, LineOf, line, item}
use Rattle.datagram450.proofs.Spelled.{line_found}

abbrev inner : ℕ → Bool
inner c = not (c == 10)

address_inner : (c : ℕ) → is_address_byte c ≡ true → inner c ≡ true
address_inner c e = grind arith

field_inner : (c : ℕ) → is_field_byte c ≡ true → inner c ≡ true
field_inner c e = grind arith

code_inner : (c : ℕ) → is_code_byte c ≡ true → inner c ≡ true
code_inner c e = grind arith

value_inner : (c : ℕ) → is_value_byte c ≡ true → inner c ≡ true
value_inner c e = grind arith

ten_is_none : digit_value 10 < 16 → ⊥
ten_is_none h = omega (arith, h)

digit_inner : (c : ℕ) → digit_value c < 16 → inner c ≡ true
digit_inner c h = elim (cases_Bool (c == 10)) [
  | inl e ↦ absurd (ten_is_none (rw (eqb-true c 10 e) at h))
  | inr e ↦ rw e refl
]

then : (c : ℕ) (cs : List ℕ) → inner c ≡ true → HasNoEnd cs → HasNoEnd (c ∷ cs)
then c cs e h = and_from (inner c) (list_all inner cs) e h

parameter_inner : (p : Parameter) → IsParameter p → HasNoEnd (parameter_text p)
parameter_inner p h = all_append inner p.code (58 ∷ p.value) (all_weaker is_code_byte inner code_inner p.code h.code) (then 58 p.value refl (all_weaker is_value_byte inner value_inner p.value h.value))

others_inner : (ps : List Parameter) → All IsParameter ps → HasNoEnd (flat_map (λ p. 44 ∷ parameter_text p) ps)
others_inner [] h = refl
others_inner (p ∷ ps) h =
    ap (list_all inner) (flat_map-cons (λ (q : Parameter). 44 ∷ parameter_text q) p ps)
    ∙ (all_append inner (44 ∷ parameter_text p) (flat_map (λ q. 44 ∷ parameter_text q) ps) (then 44 (parameter_text p) refl (parameter_inner p (All-head IsParameter p ps h))) (others_inner ps (All-tail IsParameter p ps h)))

block_inner : (b : Block) → IsBlock b → HasNoEnd (block_text b)
block_inner b h =
    let end = then 42 (b.high ∷ b.low ∷ 92 ∷ []) refl (then b.high (b.low ∷ 92 ∷ []) (digit_inner b.high h.high_digit) (then b.low (92 ∷ []) (digit_inner b.low h.low_digit) refl)) in
    let said = all_append inner (parameter_text b.first) (flat_map (λ p. 44 ∷ parameter_text p) b.others) (parameter_inner b.first h.first) (others_inner b.others h.others) in
    then 92 (content b.first b.others ++ 42 ∷ b.high ∷ b.low ∷ 92 ∷ []) refl (all_append inner (content b.first b.others) (42 ∷ b.high ∷ b.low ∷ 92 ∷ []) said end)

blocks_inner : (bs : List Block) → All IsBlock bs → HasNoEnd (flat_map block_text bs)
blocks_inner [] h = refl
blocks_inner (b ∷ bs) h =
    ap (list_all inner) (flat_map-cons block_text b bs) ∙ (all_append inner (block_text b) (flat_map block_text bs) (block_inner b (All-head IsBlock b bs h)) (blocks_inner bs (All-tail IsBlock b bs h)))

tag_inner : (said : Said) (bytes : List ℕ) → IsTag said bytes → HasNoEnd bytes
tag_inner said bytes h = ap (list_all inner) h.spelled ∙ blocks_inner h.blocks h.each

abbrev IsField : List ℕ → Type 0
IsField field = IsTrue (list_all is_field_byte field)

fields_inner : (fields : List (List ℕ)) → All IsField fields → HasNoEnd (body_of fields)
fields_inner [] h = refl
fields_inner (f ∷ fs) h =
    ap (list_all inner) (flat_map-cons (λ (x : List ℕ). 44 ∷ x) f fs)
    ∙ (all_append inner (44 ∷ f) (body_of fs) (then 44 f refl (all_weaker is_field_byte inner field_inner f (All-head IsField f fs h))) (fields_inner fs (All-tail IsField f fs h)))

start_inner : (parts : SentenceParts) (text : List ℕ) → IsSentence parts text → inner parts.start ≡ true
start_inner parts text h = elim h.starts [
  | inl e ↦ rw e refl
  | inr e ↦ rw e refl
]

abbrev sentence_content : SentenceParts → List ℕ
sentence_content parts = parts.talker ++ (parts.formatter ++ parts.body)

content_inner : (parts : SentenceParts) (text : List ℕ) → IsSentence parts text → HasNoEnd (sentence_content parts)
content_inner parts text h =
    let address = all_parts is_address_byte parts.talker parts.formatter h.address.bytes in
    let body : HasNoEnd parts.body = ap (list_all inner) h.body.spelled ∙ fields_inner h.body.fields h.body.bytes in
    all_append inner parts.talker (parts.formatter ++ parts.body) (all_weaker is_address_byte inner address_inner parts.talker address.0)
    (all_append inner parts.formatter parts.body (all_weaker is_address_byte inner address_inner parts.formatter address.1) body)

abbrev before_end : SentenceParts → ℕ → ℕ → List ℕ
before_end parts high low = parts.start ∷ (sentence_content parts ++ 42 ∷ high ∷ low ∷ 13 ∷ [])

ends : (parts : SentenceParts) (high low : ℕ) → parts.start ∷ (sentence_content parts ++ 42 ∷ high ∷ low ∷ 13 ∷ 10 ∷ []) ≡ before_end parts high low ++ 10 ∷ []
ends parts high low = ap (λ (x : List ℕ). parts.start ∷ x) (sym (append_assoc (sentence_content parts) (42 ∷ high ∷ low ∷ 13 ∷ []) (10 ∷ [])))

pub is_line : (said : Said) (text : List ℕ) (parts : SentenceParts) (bytes : List ℕ) → LineOf said text parts bytes → IsLine bytes
is_line said text parts bytes h =
    let s = h.sentence in
    let end = then 42 (s.high ∷ s.low ∷ 13 ∷ []) refl (then s.high (s.low ∷ 13 ∷ []) (digit_inner s.high s.high_digit) (then s.low (13 ∷ []) (digit_inner s.low s.low_digit) refl)) in
    let behind = then parts.start (sentence_content parts ++ 42 ∷ s.high ∷ s.low ∷ 13 ∷ []) (start_inner parts text s) (all_append inner (sentence_content parts) (42 ∷ s.high ∷ s.low ∷ 13 ∷ []) (content_inner parts text s) end) in
    record {
      text = h.front ++ before_end parts s.high s.low;
      inner = all_append inner h.front (before_end parts s.high s.low) (tag_inner said h.front h.tag) behind;
      spelled = h.spelled ∙ ap (λ (x : List ℕ). h.front ++ x) (s.spelled ∙ ends parts s.high s.low) ∙ sym (append_assoc h.front (before_end parts s.high s.low) (10 ∷ []));
    }

-- bytes that give a sentence are one line
pub line_alone : (at by : ℕ) (bytes text : List ℕ) (said : Said) (parts : SentenceParts) → line at said text parts ≡ item by bytes → IsLine bytes
line_alone at by bytes text said parts e = is_line said text parts bytes (line_found by at bytes said text parts (sym e))
