-- A line behind others gives its item in its place.
use Rattle.std.proofs.Common.{◌≡◌, ℕ, zero, suc, ◌+◌, ◌<◌, ◌≤◌, List, [], ◌∷◌, ◌++◌, All, length, Some, sym, ap, ◌∙◌, arith, length-append}
use Rattle.std.specs.Prelude.{slice_get}
use Rattle.std.proofs.lemmas.List.{append_assoc}
use Rattle.std.proofs.lemmas.List.Concat.{flat_map-cons}
use Rattle.std.proofs.lemmas.List.Elements.{All-head, All-tail}
use Rattle.tag_block.specs.Tag.{Said}
use Rattle.sentence_text.specs.Sentence.{SentenceParts}
use Rattle.datagram450.specs.Datagram.{Item, line, LineOf, item, header, Cut, IsLine, all_of, items_at, items_from, read, longest_datagram, most_lines, GivesAt}
use Rattle.datagram450.proofs.CommonRun.{common_len}
use Rattle.datagram450.proofs.Cuts.{line_is}
use Rattle.datagram450.proofs.Datagrams.{header_common, read_by}
use Rattle.datagram450.proofs.LineBytes.{is_line}
use Rattle.datagram450.proofs.Spelled.{line_read}

first_line : (left at : ℕ) (l tail : List ℕ) → IsLine l → items_from (suc left) at (l ++ tail) ≡ item at l ∷ items_from left (at + length l) tail
unfolding items_from
first_line left at l tail h = ap (λ (k : Cut). items_at (suc left) at k.lines k.rest) (line_is l tail h)

line_there : (left at : ℕ) (lines : List (List ℕ)) (l tail : List ℕ) → All IsLine lines → IsLine l → length lines < left
    → slice_get (items_from left at (all_of lines ++ (l ++ tail))) (length lines) ≡ Some (item (at + length (all_of lines)) l)
line_there zero at lines l tail each h lt = absurd (omega (arith, lt))
line_there (suc left) at [] l tail each h lt =
    let here : at ≡ at + 0 = omega arith in
    ap (λ (xs : List Item). slice_get xs 0) (first_line left at l tail h) ∙ ap (λ (n : ℕ). Some (item n l)) here
line_there (suc left) at (m ∷ ms) l tail each h lt =
    let one = first_line left at m (all_of ms ++ (l ++ tail)) (All-head IsLine m ms each) in
    let split : all_of (m ∷ ms) ++ (l ++ tail) ≡ m ++ (all_of ms ++ (l ++ tail)) = ap (λ (x : List ℕ). x ++ (l ++ tail)) (flat_map-cons (λ (x : List ℕ). x) m ms) ∙ append_assoc m (all_of ms) (l ++ tail) in
    let far : at + length m + length (all_of ms) ≡ at + length (all_of (m ∷ ms)) = omega (arith, ap length (flat_map-cons (λ (x : List ℕ). x) m ms), length-append m (all_of ms)) in
    ap (λ (x : List ℕ). slice_get (items_from (suc left) at x) (suc (length ms))) split
    ∙ ap (λ (xs : List Item). slice_get xs (suc (length ms))) one
    ∙ line_there left (at + length m) ms l tail (All-tail IsLine m ms each) h (omega (arith, lt))
    ∙ ap (λ (n : ℕ). Some (item n l)) far

gives_at : (said : Said) (text : List ℕ) (parts : SentenceParts) (l : List ℕ) (lines : List (List ℕ)) (tail : List ℕ) → LineOf said text parts l → All IsLine lines → length lines < most_lines
    → length ((header ++ all_of lines) ++ (l ++ tail)) ≤ longest_datagram → GivesAt (read ((header ++ all_of lines) ++ (l ++ tail))) (length lines) (line (length (header ++ all_of lines)) said text parts)
gives_at said text parts l lines tail h each few short =
    let body = all_of lines ++ (l ++ tail) in
    let begins : 6 ≤ common_len header (header ++ body) = omega (arith, header_common header body) in
    let at : 6 + length (all_of lines) ≡ length (header ++ all_of lines) = omega (arith, length-append header (all_of lines)) in
    record {
      items = items_from most_lines 6 body;
      read = read_by (header ++ body) begins short;
      there = line_there most_lines 6 lines l tail each (is_line said text parts l h) few ∙ ap (λ (n : ℕ). Some (item n l)) at ∙ ap Some (line_read (length (header ++ all_of lines)) said text parts l h);
    }

pub appended : (said : Said) (text : List ℕ) (parts : SentenceParts) (l : List ℕ) (lines : List (List ℕ)) (tail old new : List ℕ) → LineOf said text parts l → new ≡ old ++ l → old ≡ header ++ all_of lines → All IsLine lines → length lines < most_lines
    → length (new ++ tail) ≤ longest_datagram → GivesAt (read (new ++ tail)) (length lines) (line (length old) said text parts)
appended said text parts l lines tail old new h e before each few short =
    let front = header ++ all_of lines in
    let same : new ++ tail ≡ front ++ (l ++ tail) = ap (λ (x : List ℕ). x ++ tail) (e ∙ ap (λ (x : List ℕ). x ++ l) before) ∙ append_assoc front l tail in
    let given = gives_at said text parts l lines tail h each few (omega (arith, ap length same, short)) in
    record {
      items = given.items;
      read = ap read same ∙ given.read;
      there = given.there ∙ ap (λ (x : List ℕ). Some (line (length x) said text parts)) (sym before);
    }
