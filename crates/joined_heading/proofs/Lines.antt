-- The datagram of a heading is written line by line.
use Rattle.std.proofs.Common.{◌≡◌, ℕ, ◌+◌, List, ◌∷◌, ◌++◌, length, sym, ap, ◌∙◌, append_assoc}
use Rattle.datagram450.specs.Datagram.{header}
use Rattle.counted_lines.specs.CountedLines.{line_of, lines_datagram, lines_from}
use Rattle.counted_lines.proofs.Lines.{lines_behind}

pub written_as : (source : List ℕ) (before : ℕ) (first : List ℕ) (xs ys : List (List ℕ)) (a b d : List ℕ) → a ≡ header ++ line_of source before first
    → b ≡ a ++ lines_from source (before + 1) xs → d ≡ b ++ lines_from source (before + 1 + length xs) ys
    → d ≡ lines_datagram source before (first ∷ (xs ++ ys))
written_as source before first xs ys a b d is_a is_b is_d =
    let line = line_of source before first in
    let more = lines_from source (before + 1) xs in
    let rest = lines_from source (before + 1 + length xs) ys in
    is_d
    ∙ ap (λ bytes. bytes ++ rest) (is_b ∙ ap (λ bytes. bytes ++ more) is_a)
    ∙ append_assoc (header ++ line) more rest
    ∙ append_assoc header line (more ++ rest)
    ∙ ap (λ lines. header ++ (line ++ lines)) (sym (lines_behind source (before + 1) xs ys))
