-- The joined sentences of a group are cut into the very sentences: each has one LF, its last byte.
use Rattle.std.proofs.Common.{◌≡◌, ℕ, ◌<◌, true, Bool, List, [], ◌∷◌, ◌++◌, All, map, reverse, refl, sym, ap, subst, ◌∙◌, arith, inl, inr}
use Rattle.std.specs.Prelude.{◌==◌, not, IsTrue}
use Rattle.std.specs.Char.{digit_value}
use Rattle.std.specs.List.{AllByRecursion, list_all}
use Rattle.std.proofs.lemmas.Bool.{cases_Bool, and_from, eqb-true}
use Rattle.std.proofs.lemmas.List.{append_assoc, append-nil, reverse-append}
use Rattle.std.proofs.lemmas.List.Concat.{flat_map-append, flat_map-cons}
use Rattle.std.proofs.lemmas.List.Elements.{All-nil, All-cons, All-append, All-head, All-tail}
use Rattle.sentence_text.specs.Byte.{is_address_byte, is_field_byte}
use Rattle.sentence_text.specs.Sentence.{SentenceParts, IsSentence, body_of, content}
use Rattle.sentence_text.proofs.Bytes.{all_append, all_weaker, all_parts}
use Rattle.tag_block.specs.GroupRuns.{GroupLine, sentences_of}
use Rattle.datagram450.specs.Datagram.{Cut, IsLine, HasNoEnd, cut, all_of}
use Rattle.datagram450.proofs.Cuts.{only_cut}

-- ---- a sentence reaches up to its only LF

abbrev inner : ℕ → Bool
inner c = not (c == 10)

address_inner : (c : ℕ) → is_address_byte c ≡ true → inner c ≡ true
address_inner c e = grind arith

field_inner : (c : ℕ) → is_field_byte c ≡ true → inner c ≡ true
field_inner c e = grind arith

ten_is_none : digit_value 10 < 16 → ⊥
ten_is_none h = omega (arith, h)

digit_inner : (c : ℕ) → digit_value c < 16 → inner c ≡ true
digit_inner c h = elim (cases_Bool (c == 10)) [
  | inl e ↦ absurd (ten_is_none (rw (eqb-true c 10 e) at h))
  | inr e ↦ rw e refl
]

then : (c : ℕ) (cs : List ℕ) → inner c ≡ true → HasNoEnd cs → HasNoEnd (c ∷ cs)
then c cs e h = and_from (inner c) (list_all inner cs) e h

abbrev IsField : List ℕ → Type 0
IsField field = IsTrue (list_all is_field_byte field)

fields_inner : (fields : List (List ℕ)) → All IsField fields → HasNoEnd (body_of fields)
fields_inner [] h = refl
fields_inner (f ∷ fs) h =
    ap (list_all inner) (flat_map-cons (λ (x : List ℕ). 44 ∷ x) f fs)
    ∙ (all_append inner (44 ∷ f) (body_of fs) (then 44 f refl (all_weaker is_field_byte inner field_inner f (All-head IsField f fs h))) (fields_inner fs (All-tail IsField f fs h)))

module _ (parts : SentenceParts) (text : List ℕ) (h : IsSentence parts text) where
  start_inner : inner parts.start ≡ true
  start_inner = elim h.starts [
    | inl e ↦ rw e refl
    | inr e ↦ rw e refl
  ]

  content_inner : HasNoEnd (content parts)
  content_inner =
      let address = all_parts is_address_byte parts.talker parts.formatter h.address.bytes in
      let body : HasNoEnd parts.body = ap (list_all inner) h.body.spelled ∙ fields_inner h.body.fields h.body.bytes in
      all_append inner parts.talker (parts.formatter ++ parts.body) (all_weaker is_address_byte inner address_inner parts.talker address.0)
      (all_append inner parts.formatter parts.body (all_weaker is_address_byte inner address_inner parts.formatter address.1) body)

  abbrev behind : List ℕ
  behind = 42 ∷ h.high ∷ h.low ∷ 13 ∷ []

  behind_inner : HasNoEnd behind
  behind_inner = then 42 (h.high ∷ h.low ∷ 13 ∷ []) refl (then h.high (h.low ∷ 13 ∷ []) (digit_inner h.high h.high_digit) (then h.low (13 ∷ []) (digit_inner h.low h.low_digit) refl))

  pub sentence_is_line : IsLine text
  sentence_is_line = record {
    text = parts.start ∷ (content parts ++ behind);
    inner = then parts.start (content parts ++ behind) start_inner (all_append inner (content parts) behind content_inner behind_inner);
    spelled = h.spelled ∙ ap (λ (x : List ℕ). parts.start ∷ x) (sym (append_assoc (content parts) behind (10 ∷ [])));
  }

-- ---- lines, the newest first, and their sentences in order

abbrev pub HasLine : GroupLine → Type 0
HasLine x = IsLine x.sentence

abbrev pub in_order : List GroupLine → List (List ℕ)
in_order acc = reverse (map (λ x. x.sentence) acc)

one_more : (x : GroupLine) (acc : List GroupLine) → in_order (x ∷ acc) ≡ in_order acc ++ x.sentence ∷ []
one_more x acc = reverse-append (x.sentence ∷ []) (map (λ (y : GroupLine). y.sentence) acc)

joined_is : (acc : List GroupLine) → sentences_of acc ≡ all_of (in_order acc)
joined_is [] = refl
joined_is (x ∷ []) = sym (append-nil x.sentence)
joined_is (x ∷ y ∷ ys) =
    ap (λ (l : List ℕ). l ++ x.sentence) (joined_is (y ∷ ys))
    ∙ ap (λ (l : List ℕ). all_of (in_order (y ∷ ys)) ++ l) (sym (append-nil x.sentence))
    ∙ sym (flat_map-append (λ (l : List ℕ). l) (in_order (y ∷ ys)) (x.sentence ∷ []))
    ∙ ap all_of (sym (one_more x (y ∷ ys)))

each_line : (acc : List GroupLine) → AllByRecursion HasLine acc → All IsLine (in_order acc)
each_line [] all = All-nil IsLine
each_line (x ∷ acc) all =
    subst (All IsLine) (sym (one_more x acc))
    (All-append IsLine (in_order acc) (x.sentence ∷ []) (each_line acc all.1) (All-cons IsLine x.sentence [] all.0 (All-nil IsLine)))

pub cut_in_order : (acc : List GroupLine) → AllByRecursion HasLine acc → (cut (sentences_of acc)).lines ≡ in_order acc
cut_in_order acc all =
    ap (λ (k : Cut). k.lines)
    (only_cut (record { lines = in_order acc; rest = [] }) (sentences_of acc)
    (record { each = each_line acc all; last = refl; spelled = joined_is acc ∙ sym (append-nil (all_of (in_order acc))) }))
