-- The datagram of a leg is written line by line.
use Rattle.std.proofs.Common.{◌≡◌, ℕ, ◌+◌, List, [], ◌∷◌, ◌++◌, length, sym, ap, ◌∙◌, append_assoc}
use Rattle.std.proofs.lemmas.List.{append-nil}
use Rattle.datagram450.specs.Datagram.{header}
use Rattle.counted_lines.specs.CountedLines.{line_of, lines_datagram, lines_from}
use Rattle.counted_lines.proofs.Lines.{lines_behind}

pub written_as : (source : List ℕ) (before : ℕ) (xs : List (List ℕ)) (y z : List ℕ) (a b d : List ℕ) → a ≡ header ++ lines_from source before xs
    → b ≡ a ++ line_of source (before + length xs) y → d ≡ b ++ line_of source (before + length xs + 1) z
    → d ≡ lines_datagram source before (xs ++ (y ∷ z ∷ []))
written_as source before xs y z a b d is_a is_b is_d =
    let first = lines_from source before xs in
    let second = line_of source (before + length xs) y in
    let third = line_of source (before + length xs + 1) z in
    is_d
    ∙ ap (λ bytes. bytes ++ third) (is_b ∙ ap (λ bytes. bytes ++ second) is_a)
    ∙ append_assoc (header ++ first) second third
    ∙ append_assoc header first (second ++ third)
    ∙ ap (λ rest. header ++ (first ++ (second ++ rest))) (sym (append-nil third))
    ∙ ap (λ lines. header ++ lines) (sym (lines_behind source before xs (y ∷ z ∷ [])))
