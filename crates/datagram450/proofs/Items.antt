-- What holds of each item of a datagram.
use Rattle.std.proofs.Common.{◌≡◌, ℕ, zero, suc, ◌+◌, ◌≤◌, List, [], ◌∷◌, length, take, drop, length-append, length-drop, Option, Some, None, Result, Ok, Err, refl, sym, ap, subst, arith}
use Rattle.std.specs.Prelude.{IfOk}
use Rattle.std.specs.List.{AllByRecursion}
use Rattle.std.proofs.lemmas.List.Concat.{flat_map-cons}
use Rattle.tag_block.specs.declared.fault.TagFault.{TagFault}
use Rattle.tag_block.specs.Tag.{Said}
use Rattle.tag_block.specs.Reading as tags
use Rattle.tag_block.proofs.Laws.{fronts}
use Rattle.tag_block.proofs.Ranges.{said_ranges}
use Rattle.sentence_text.specs.declared.fault.SentenceFault.{SentenceFault}
use Rattle.sentence_text.specs.Sentence.{SentenceParts}
use Rattle.sentence_text.specs.Reading as sentences
use Rattle.datagram450.specs.declared.fault.DatagramFault.{DatagramFault}
use Rattle.datagram450.specs.Datagram.{Item, with_sentence, with_tag, item, longest_datagram, most_lines, all_of, items_at, DatagramOf, IsItem, header}
use Rattle.datagram450.proofs.TagPlaces.{tag_fault}
use Rattle.datagram450.proofs.SentencePlaces.{sentence_fault}
use Rattle.datagram450.proofs.Spelled.{sentence_of}

refused : (bytes : List ℕ) (x : SentenceFault) (f : Option SentenceFault) → sentences.fault_of bytes ≡ f → sentences.read_as f (sentences.parts_at bytes) ≡ Err x → sentences.fault_of bytes ≡ Some x
refused bytes x None e same = absurd cc
refused bytes x (Some f) e same = cc

item_is : (at : ℕ) (bytes : List ℕ) → at + length bytes ≤ longest_datagram → IsItem (item at bytes)
unfolding item
item_is at bytes le = by_tag (tags.read bytes) refl
  where
    by_sentence : (said : Said) (n : ℕ) → tags.read bytes ≡ Ok (said, n) → (r : Result SentenceParts SentenceFault) → sentences.read (drop n bytes) ≡ r → IsItem (with_sentence at n said (drop n bytes) r)
    by_sentence said n t (Ok p) f =
        let front = fronts bytes said n t in
        let sentence = sentence_of (drop n bytes) p f in
        record { place = omega (arith, le, length-drop n bytes, ap length sentence.spelled); ranges = said_ranges said (take n bytes) front.is; sentence = sentence }
    by_sentence said n t (Err x) f =
        let front = fronts bytes said n t in
        let place = sentence_fault (drop n bytes) x (refused (drop n bytes) x (sentences.fault_of (drop n bytes)) refl f) in
        omega (arith, le, place, front.within, length-drop n bytes)

    by_tag : (r : Result (Said × ℕ) TagFault) → tags.read bytes ≡ r → IsItem (with_tag at bytes r)
    by_tag (Ok t) f = by_sentence t.0 t.1 f (sentences.read (drop t.1 bytes)) refl
    by_tag (Err x) f = omega (arith, le, tag_fault bytes x f)

one_more : (l : List ℕ) (ls : List (List ℕ)) → length (all_of (l ∷ ls)) ≡ length l + length (all_of ls)
one_more l ls = omega (arith, ap length (flat_map-cons (λ (m : List ℕ). m) l ls), length-append l (all_of ls))

items_are : (left at : ℕ) (lines : List (List ℕ)) (rest : List ℕ) → at + (length (all_of lines) + length rest) ≤ longest_datagram → AllByRecursion IsItem (items_at left at lines rest)
items_are left at [] [] le = tt
items_are left at [] (c ∷ cs) le = (omega (arith, le), tt)
items_are zero at (l ∷ ls) rest le = (omega (arith, le), tt)
items_are (suc left) at (l ∷ ls) rest le = (item_is at l (omega (arith, le, one_more l ls)), items_are left (at + length l) ls rest (omega (arith, le, one_more l ls)))

pub each_is : (bytes : List ℕ) (result : Result (List Item) DatagramFault) → IfOk result (λ items. DatagramOf items bytes) → IfOk result (AllByRecursion IsItem)
each_is bytes (Err f) h = tt
each_is bytes (Ok items) h =
    let c = h.cut in
    let long : length h.body ≡ length (all_of c.lines) + length c.rest = omega (arith, ap length h.is_cut.spelled, length-append (all_of c.lines) c.rest) in
    let whole : length bytes ≡ 6 + length h.body = omega (arith, ap length h.begins, length-append header h.body) in
    subst (AllByRecursion IsItem) (sym h.gives) (items_are most_lines 6 c.lines c.rest (omega (arith, h.most, long, whole)))
