-- The lines of a datagram: how long they are, that they stand behind each other, and that they are counted modulo the greatest count.
use Rattle.std.proofs.Common.{◌≡◌, ℕ, ◌+◌, ◌%◌, ◌≤◌, List, [], ◌∷◌, ◌++◌, length, length-append, None, refl, sym, ap, ◌∙◌, append_assoc, arith}
use Rattle.std.proofs.Math.Nat.{mod-add-mod, mod-mod}
use Rattle.gate_events.specs.Emit.{net}
use Rattle.sentence_text.specs.Names.{IsSfi}
use Rattle.tag_block.specs.Tag.{most_count}
use Rattle.tag_block.specs.Writing.{IsWritable}
use Rattle.tag_block.specs.declared.writing.TagParts.{TagParts}
use Rattle.datagram450.specs.Datagram.{header, line_text}
use Rattle.gate_model.proofs.SaidFits.{lines_fit}
use Rattle.counted_lines.specs.CountedLines.{line_of, lines_from, posted_of}

abbrev alone : List ℕ → ℕ → TagParts
alone source before = record { group = None; source = source; count = before % most_count + 1 }

writable : (source : List ℕ) (before : ℕ) → IsWritable (alone source before)
writable source before = record { group = tt; count = omega arith; small = omega arith }

pub line_short : (source : List ℕ) (before : ℕ) (text : List ℕ) → IsSfi source → length text ≤ 82 → length (line_of source before text) ≤ 114
line_short source before text sfi short = lines_fit (alone source before) text (writable source before) sfi short

pub line_room : (source : List ℕ) (before : ℕ) (text old out : List ℕ) → IsSfi source → length text ≤ 82 → out ≡ old ++ line_of source before text
    → length out ≤ length old + 114
line_room source before text old out sfi short is =
    let line = line_short source before text sfi short in
    let total = ap length is in
    omega (arith, line, total, length-append old (line_of source before text))

pub lines_behind : (source : List ℕ) (before : ℕ) (xs ys : List (List ℕ)) → lines_from source before (xs ++ ys) ≡ lines_from source before xs ++ lines_from source (before + length xs) ys
lines_behind source before [] ys = ap (λ n. lines_from source n ys) (omega arith)
lines_behind source before (x ∷ xs) ys =
    ap (λ rest. line_of source before x ++ rest) (lines_behind source (before + 1) xs ys)
    ∙ sym (append_assoc (line_of source before x) (lines_from source (before + 1) xs) (lines_from source (before + 1 + length xs) ys))
    ∙ ap (λ n. (line_of source before x ++ lines_from source (before + 1) xs) ++ lines_from source n ys) (omega arith)

same_lines : (source : List ℕ) (a b : ℕ) (texts : List (List ℕ)) → a % most_count ≡ b % most_count → lines_from source a texts ≡ lines_from source b texts
same_lines source a b [] same = refl
same_lines source a b (text ∷ texts) same =
    ap (λ n. line_text (record { group = None; source = source; count = n + 1 }) text ++ lines_from source (a + 1) texts) same
    ∙ ap (λ rest. line_of source b text ++ rest)
    (same_lines source (a + 1) (b + 1) texts (sym (mod-add-mod a most_count 1) ∙ ap (λ n. (n + 1) % most_count) same ∙ mod-add-mod b most_count 1))

pub posted_modulo : (group source : List ℕ) (before : ℕ) (texts : List (List ℕ))
    → posted_of group source (before % most_count) texts ≡ posted_of group source before texts
posted_modulo group source before [] = refl
posted_modulo group source before (text ∷ texts) =
    ap (λ lines. net group (header ++ lines) ∷ []) (same_lines source (before % most_count) before (text ∷ texts) (mod-mod before most_count))
