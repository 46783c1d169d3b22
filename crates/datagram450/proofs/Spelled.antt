-- A line gives what its TAG blocks and its sentence say exactly where it is spelled so.
use Rattle.std.proofs.Common.{◌≡◌, ℕ, List, ◌++◌, length, take, drop, Option, Some, None, Result, Ok, Err, refl, sym, ap, ◌∙◌, inl, inr}
use Rattle.std.specs.Prelude.{slice_index}
use Rattle.std.proofs.lemmas.List.{take-append-drop, drop_at}
use Rattle.tag_block.specs.declared.fault.TagFault.{TagFault}
use Rattle.tag_block.specs.Tag.{Said}
use Rattle.tag_block.specs.Reading as tags
use Rattle.tag_block.proofs.Laws.{fronts, is_read}
use Rattle.sentence_text.specs.declared.fault.SentenceFault.{SentenceFault}
use Rattle.sentence_text.specs.Sentence.{SentenceParts, IsSentence}
use Rattle.sentence_text.specs.Reading as sentences
use Rattle.sentence_text.proofs.Found.{found}
use Rattle.sentence_text.proofs.Only.{only}
use Rattle.datagram450.specs.Datagram.{line, LineOf, with_sentence, with_tag, item}

begins_no_block : (parts : SentenceParts) (text : List ℕ) → IsSentence parts text → slice_index text 0 ≡ 92 → ⊥
begins_no_block parts text h e =
    let start : slice_index text 0 ≡ parts.start = ap (λ (x : List ℕ). slice_index x 0) h.spelled in
    elim h.starts [
      | inl s ↦ cc
      | inr s ↦ cc
    ]

with_sentence_of : (at n : ℕ) (said : Said) (text : List ℕ) (parts : SentenceParts) → IsSentence parts text → with_sentence at n said text (sentences.read text) ≡ line at said text parts
with_sentence_of at n said text parts h = ap (with_sentence at n said text) (only text parts h)

pub line_read : (at : ℕ) (said : Said) (text : List ℕ) (parts : SentenceParts) (bytes : List ℕ) → LineOf said text parts bytes → item at bytes ≡ line at said text parts
unfolding item
line_read at said text parts bytes h =
    let read = is_read said h.front text h.tag (begins_no_block parts text h.sentence) in
    let behind : drop (length h.front) (h.front ++ text) ≡ text = drop_at h.front text (length h.front) refl in
    ap (λ (x : List ℕ). with_tag at x (tags.read x)) h.spelled
    ∙ ap (with_tag at (h.front ++ text)) read
    ∙ ap (λ (x : List ℕ). with_sentence at (length h.front) said x (sentences.read x)) behind
    ∙ with_sentence_of at (length h.front) said text parts h.sentence

-- ---- the other way

abbrev given : SentenceParts → Result SentenceParts SentenceFault
given parts = Ok parts

same_parts : (p q : SentenceParts) → given p ≡ given q → p ≡ q
same_parts p q e = cc

pub sentence_of : (bytes : List ℕ) (parts : SentenceParts) → sentences.read bytes ≡ Ok parts → IsSentence parts bytes
sentence_of bytes parts e = go (sentences.fault_of bytes) refl e
  where
    go : (f : Option SentenceFault) → sentences.fault_of bytes ≡ f → sentences.read_as f (sentences.parts_at bytes) ≡ Ok parts → IsSentence parts bytes
    go None e same = rw (← same_parts (sentences.parts_at bytes) parts same) (found bytes e)
    go (Some x) e same = absurd cc

record SameLine (said other : Said) (text more : List ℕ) (parts others : SentenceParts) : Type 0 where
  said_is : said ≡ other
  text_is : text ≡ more
  parts_are : parts ≡ others

same_line : (at by : ℕ) (said other : Said) (text more : List ℕ) (parts others : SentenceParts) → line at said text parts ≡ line by other more others → SameLine said other text more parts others
same_line at by said other text more parts others e = record { said_is = cc; text_is = cc; parts_are = cc }

front_is : (bytes : List ℕ) (said : Said) (n : ℕ) (parts : SentenceParts) → tags.read bytes ≡ Ok (said, n) → sentences.read (drop n bytes) ≡ Ok parts → LineOf said (drop n bytes) parts bytes
front_is bytes said n parts e f =
    let front = fronts bytes said n e in
    record { front = take n bytes; tag = front.is; sentence = sentence_of (drop n bytes) parts f; spelled = sym (take-append-drop n bytes) }

pub line_found : (at by : ℕ) (bytes : List ℕ) (said : Said) (text : List ℕ) (parts : SentenceParts) → item at bytes ≡ line by said text parts → LineOf said text parts bytes
unfolding item
line_found at by bytes said text parts e = by_tag (tags.read bytes) refl e
  where
    by_sentence : (s : Said) (n : ℕ) → tags.read bytes ≡ Ok (s, n) → (r : Result SentenceParts SentenceFault) → sentences.read (drop n bytes) ≡ r → with_sentence at n s (drop n bytes) r ≡ line by said text parts → LineOf said text parts bytes
    by_sentence s n t (Ok p) f e =
        let same = same_line at by s said (drop n bytes) text p parts e in
        let is = front_is bytes s n p t f in
        rw (← same.said_is, ← same.text_is, ← same.parts_are) is
    by_sentence s n t (Err x) f e = absurd cc

    by_tag : (r : Result (Said × ℕ) TagFault) → tags.read bytes ≡ r → with_tag at bytes r ≡ line by said text parts → LineOf said text parts bytes
    by_tag (Ok t) f e = by_sentence t.0 t.1 f (sentences.read (drop t.1 bytes)) refl e
    by_tag (Err x) f e = absurd cc
