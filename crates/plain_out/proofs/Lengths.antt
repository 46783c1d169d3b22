-- The sentences of a datagram have no more bytes than the datagram.
use Rattle.std.proofs.Common.{ℕ, zero, suc, ◌+◌, ◌≤◌, List, [], ◌∷◌, length, drop, length-append, length-drop, Result, Ok, Err, refl, sym, ap, subst, arith}
use Rattle.std.specs.Prelude.{IfOk}
use Rattle.std.specs.List.{flat_map}
use Rattle.std.proofs.lemmas.List.Concat.{flat_map-cons}
use Rattle.tag_block.specs.declared.fault.TagFault.{TagFault}
use Rattle.tag_block.specs.Tag.{Said}
use Rattle.tag_block.specs.Reading as tags
use Rattle.sentence_text.specs.declared.fault.SentenceFault.{SentenceFault}
use Rattle.sentence_text.specs.Sentence.{SentenceParts}
use Rattle.sentence_text.specs.Reading as sentences
use Rattle.datagram450.specs.Datagram.{Item, DatagramOf, all_of, header, item, items_at, most_lines, read, with_sentence, with_tag}
use Rattle.datagram450.specs.declared.fault.DatagramFault.{DatagramFault}
use Rattle.datagram450.proofs.Datagrams.{is_found}
use Rattle.plain_out.specs.Plain.{sentence_of, sentences_in, sentences_of}

one_short : (at : ℕ) (l : List ℕ) → length (sentence_of (item at l)) ≤ length l
unfolding item
one_short at l = by_tag (tags.read l)
  where
    by_sentence : (said : Said) (n : ℕ) (r : Result SentenceParts SentenceFault) → length (sentence_of (with_sentence at n said (drop n l) r)) ≤ length l
    by_sentence said n (Ok parts) = omega (arith, length-drop n l)
    by_sentence said n (Err f) = omega arith

    by_tag : (r : Result (Said × ℕ) TagFault) → length (sentence_of (with_tag at l r)) ≤ length l
    by_tag (Ok t) = by_sentence t.0 t.1 (sentences.read (drop t.1 l))
    by_tag (Err f) = omega arith

all_short : (left at : ℕ) (lines : List (List ℕ)) (rest : List ℕ) → length (flat_map sentence_of (items_at left at lines rest)) ≤ length (all_of lines)
all_short left at [] [] = omega arith
all_short left at [] (c ∷ cs) = omega arith
all_short zero at (l ∷ ls) rest = omega arith
all_short (suc left) at (l ∷ ls) rest =
    let more = items_at left (at + length l) ls rest in
    omega (
      arith,
      one_short at l,
      all_short left (at + length l) ls rest,
      ap length (flat_map-cons sentence_of (item at l) more),
      length-append (sentence_of (item at l)) (flat_map sentence_of more),
      ap length (flat_map-cons (λ (m : List ℕ). m) l ls),
      length-append l (all_of ls),
    )

pub sentences_short : (items : List Item) (bytes : List ℕ) → DatagramOf items bytes → length (flat_map sentence_of items) ≤ length bytes
sentences_short items bytes h =
    let c = h.cut in
    subst (λ (is : List Item). length (flat_map sentence_of is) ≤ length bytes) (sym h.gives)
    (omega (
      arith,
      all_short most_lines 6 c.lines c.rest,
      ap length h.is_cut.spelled,
      length-append (all_of c.lines) c.rest,
      ap length h.begins,
      length-append header h.body,
    ))

pub said_short : (bytes : List ℕ) → length (sentences_in bytes) ≤ length bytes
said_short bytes = by (read bytes) (is_found bytes (read bytes) refl)
  where
    by : (result : Result (List Item) DatagramFault) → IfOk result (λ items. DatagramOf items bytes) → length (sentences_of result) ≤ length bytes
    by (Ok items) found = sentences_short items bytes found
    by (Err fault) found = omega arith
