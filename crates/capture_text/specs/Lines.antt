-- The lines of a capture, whose bytes they are.
use Rattle.std.specs.Prelude.{ℕ, Bool, ◌==◌, not, if◌then◌else◌, List, [], ◌∷◌, map}
use Rattle.std.specs.List.{list_all, slice_split}

abbrev pub is_lf : ℕ → Bool
is_lf byte = byte == 10

-- no LF stands in it
abbrev pub is_one_line : List ℕ → Bool
is_one_line line = list_all (λ c. not (is_lf c)) line

-- a line without the CR at its end
abbrev pub without_cr : List ℕ → List ℕ
without_cr [] = []
without_cr (b ∷ []) = if b == 13 then [] else b ∷ []
without_cr (b ∷ c ∷ bytes) = b ∷ without_cr (c ∷ bytes)

-- all but the last
abbrev pub front : {X : Type 0} → List X → List X
front [] = []
front (x ∷ []) = []
front (x ∷ y ∷ xs) = x ∷ front (y ∷ xs)

-- The lines of an input: the parts between its LFs, and what follows the last one. One CR at the end of a line is no
-- part of it.
abbrev pub lines_of : List ℕ → List (List ℕ)
lines_of bytes = map without_cr (slice_split is_lf bytes)

-- those that have come to their LF
abbrev pub complete_lines : List ℕ → List (List ℕ)
complete_lines bytes = map without_cr (front (slice_split is_lf bytes))
