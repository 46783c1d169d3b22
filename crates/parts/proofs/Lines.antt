-- A datagram that is written of sentences is read as these sentences.
use Rattle.std.proofs.Common.{◌≡◌, ℕ, suc, ◌+◌, ◌*◌, ◌%◌, ◌≤◌, List, [], ◌∷◌, ◌++◌, length, length-append, refl, sym, ap, subst, ◌∙◌, arith}
use Rattle.std.specs.Prelude.{None}
use Rattle.std.specs.List.{AllByRecursion}
use Rattle.std.proofs.lemmas.List.{append-nil}
use Rattle.std.proofs.lemmas.List.Concat.{flat_map-cons}
use Rattle.sentence_text.specs.Names.{IsSfi}
use Rattle.tag_block.specs.declared.writing.TagParts.{TagParts}
use Rattle.tag_block.specs.Tag.{block_text, most_count}
use Rattle.tag_block.specs.Writing.{IsWritable, block_of, most_written_code, said_by}
use Rattle.tag_block.proofs.Written.{written}
use Rattle.datagram450.specs.Datagram.{LineOf, all_of, header, line_text, sentence_datagram}
use Rattle.datagram450.proofs.Spelled.{sentence_of}
use Rattle.sentence_profile.specs.Laws.{IsOneSentence}
use Rattle.history.specs.Emits.{Spoken, datagram_of, lines_from, lines_on, next_code, part_of}
use Rattle.gate_model.proofs.SaidFits.{group_fits, lines_fit}
use Rattle.plain_out.specs.Laws.{AreLinesOf, Says}
use Rattle.plain_out.proofs.Staying.{lines_are_read}

-- a sentence behind a TAG block
tagged : (tag : TagParts) (x : List ℕ) (is : IsOneSentence x) → IsWritable tag → IsSfi tag.source → LineOf (said_by tag) x is.parts (line_text tag x)
tagged tag x is writable sfi = record { front = block_text (block_of tag); tag = written tag writable sfi; sentence = sentence_of x is.parts is.is_read; spelled = refl }

-- ---- one sentence

abbrev alone : List ℕ → ℕ → TagParts
alone source before = record { group = None; source = source; count = before % most_count + 1 }

alone_writable : (source : List ℕ) (before : ℕ) → IsWritable (alone source before)
alone_writable source before = record { group = tt; count = omega arith; small = omega arith }

behind_header : (line : List ℕ) → length line ≤ 114 → length (header ++ line) ≤ 1472
behind_header line short = omega (arith, length-append header line, short)

pub says_one : (source : List ℕ) (before : ℕ) (x : List ℕ) → IsSfi source → IsOneSentence x → Says (sentence_datagram source before x) (x ∷ [])
unfolding sentence_datagram
says_one source before x sfi is =
    let tag = alone source before in
    let line = line_text tag x in
    let writable = alone_writable source before in
    let all : all_of (line ∷ []) ≡ line = flat_map-cons (λ (l : List ℕ). l) line [] ∙ append-nil line in
    let short = behind_header line (lines_fit tag x writable sfi is.short) in
    subst (λ (bytes : List ℕ). Says (header ++ bytes) (x ∷ [])) all
    (lines_are_read (line ∷ []) (x ∷ []) ((said_by tag, is.parts, tagged tag x is writable sfi), tt) (omega arith)
    (subst (λ (bytes : List ℕ). length (header ++ bytes) ≤ 1472) (sym all) short))

-- ---- several

module _ (source : List ℕ) (total code : ℕ) where
  abbrev tag_at : ℕ → ℕ → TagParts
  tag_at before number = record { group = part_of total code number; source = source; count = before % most_count + 1 }

  abbrev each_line : ℕ → ℕ → List (List ℕ) → List (List ℕ)
  each_line before number [] = []
  each_line before number (x ∷ xs) = line_text (tag_at before number) x ∷ each_line (before + 1) (number + 1) xs

  all_lines : (before number : ℕ) (xs : List (List ℕ)) → all_of (each_line before number xs) ≡ lines_from source total code before number xs
  all_lines before number [] = refl
  all_lines before number (x ∷ xs) =
      flat_map-cons (λ (l : List ℕ). l) (line_text (tag_at before number) x) (each_line (before + 1) (number + 1) xs)
      ∙ ap (λ (rest : List ℕ). line_text (tag_at before number) x ++ rest) (all_lines (before + 1) (number + 1) xs)

  as_many : (before number : ℕ) (xs : List (List ℕ)) → length (each_line before number xs) ≡ length xs
  as_many before number [] = refl
  as_many before number (x ∷ xs) = ap suc (as_many (before + 1) (number + 1) xs)

  module _ (sfi : IsSfi source) (few : total ≤ 9) (first : 1 ≤ code) (small : code ≤ most_written_code) where
    writable : (before number : ℕ) → 1 ≤ number → number ≤ total → IsWritable (tag_at before number)
    writable before number one within = record { group = group_fits total code number few first small one within; count = omega arith; small = omega arith }

    are_lines : (before number : ℕ) (xs : List (List ℕ)) → AllByRecursion IsOneSentence xs → 1 ≤ number → number + length xs ≤ total + 1
        → AreLinesOf (each_line before number xs) xs
    are_lines before number [] is one within = tt
    are_lines before number (x ∷ xs) is one within =
        let tag = tag_at before number in (
          (said_by tag, is.0.parts, tagged tag x is.0 (writable before number one (omega (arith, within))) sfi),
          are_lines (before + 1) (number + 1) xs is.1 (omega arith) (omega (arith, within)),
        )

    lines_short : (before number : ℕ) (xs : List (List ℕ)) → AllByRecursion IsOneSentence xs → 1 ≤ number → number + length xs ≤ total + 1
        → length (lines_from source total code before number xs) ≤ 114 * length xs
    lines_short before number [] is one within = omega arith
    lines_short before number (x ∷ xs) is one within =
        let tag = tag_at before number in
        let line = lines_fit tag x (writable before number one (omega (arith, within))) sfi is.0.short in
        let rest = lines_short (before + 1) (number + 1) xs is.1 (omega arith) (omega (arith, within)) in
        omega (arith, line, rest, length-append (line_text tag x) (lines_from source total code (before + 1) (number + 1) xs))

code_fits : (before : List Spoken) → next_code before ≤ most_written_code
code_fits before = omega arith

pub says_all : (source : List ℕ) (before : List Spoken) (group : List ℕ) (xs : List (List ℕ)) → IsSfi source → length xs ≤ 9 → AllByRecursion IsOneSentence xs
    → Says (datagram_of source before group xs) xs
says_all source before group xs sfi few is =
    let total = length xs in
    let code = next_code before in
    let count = lines_on group before in
    let lines = each_line source total code count 1 xs in
    let same = all_lines source total code count 1 xs in
    let short = lines_short source total code sfi few (omega arith) (code_fits before) count 1 xs is (omega arith) (omega arith) in
    let room : length (header ++ lines_from source total code count 1 xs) ≤ 1472 =
    omega (arith, short, few, length-append header (lines_from source total code count 1 xs)) in
    subst (λ (bytes : List ℕ). Says (header ++ bytes) xs) same
    (lines_are_read lines xs (are_lines source total code sfi few (omega arith) (code_fits before) count 1 xs is (omega arith) (omega arith))
    (omega (arith, few, as_many source total code count 1 xs))
    (subst (λ (bytes : List ℕ). length (header ++ bytes) ≤ 1472) (sym same) room))

-- ---- several, each in a line of no group

module _ (source : List ℕ) where
  abbrev pub lines_alone : ℕ → List (List ℕ) → List (List ℕ)
  lines_alone before [] = []
  lines_alone before (x ∷ xs) = line_text (alone source before) x ∷ lines_alone (before + 1) xs

  as_many_alone : (before : ℕ) (xs : List (List ℕ)) → length (lines_alone before xs) ≡ length xs
  as_many_alone before [] = refl
  as_many_alone before (x ∷ xs) = ap suc (as_many_alone (before + 1) xs)

  module _ (sfi : IsSfi source) where
    are_alone : (before : ℕ) (xs : List (List ℕ)) → AllByRecursion IsOneSentence xs → AreLinesOf (lines_alone before xs) xs
    are_alone before [] is = tt
    are_alone before (x ∷ xs) is =
        let tag = alone source before in
        ((said_by tag, is.0.parts, tagged tag x is.0 (alone_writable source before) sfi), are_alone (before + 1) xs is.1)

    alone_short : (before : ℕ) (xs : List (List ℕ)) → AllByRecursion IsOneSentence xs → length (all_of (lines_alone before xs)) ≤ 114 * length xs
    alone_short before [] is = omega arith
    alone_short before (x ∷ xs) is =
        let tag = alone source before in
        let line = lines_fit tag x (alone_writable source before) sfi is.0.short in
        let rest = alone_short (before + 1) xs is.1 in
        subst (λ (bytes : List ℕ). length bytes ≤ 114 * suc (length xs)) (sym (flat_map-cons (λ (l : List ℕ). l) (line_text tag x) (lines_alone (before + 1) xs)))
        (omega (arith, line, rest, length-append (line_text tag x) (all_of (lines_alone (before + 1) xs))))

pub says_each : (source : List ℕ) (before : ℕ) (xs : List (List ℕ)) → IsSfi source → length xs ≤ 9 → AllByRecursion IsOneSentence xs
    → Says (header ++ all_of (lines_alone source before xs)) xs
says_each source before xs sfi few is =
    let lines = lines_alone source before xs in
    let short = alone_short source sfi before xs is in
    lines_are_read lines xs (are_alone source sfi before xs is) (omega (arith, few, as_many_alone source before xs))
    (omega (arith, short, few, length-append header (all_of lines)))
