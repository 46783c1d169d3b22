-- The text that is made of the lines of an input, one after the other.
use Rattle.std.specs.Prelude.{◌≡◌, ℕ, ◌+◌, List, [], ◌∷◌, ◌++◌}

-- Each line, numbered from n, gives its text and leaves what is kept for the next, and the bytes are these texts behind one another.
abbrev pub AreTexts : {A : Type 0} → (A → ℕ → List ℕ → List ℕ → A → Type 0) → A → ℕ → List (List ℕ) → List ℕ → A → Type 0
AreTexts Gives before n [] bytes after = (bytes ≡ []) × (after ≡ before)
AreTexts {A = A} Gives before n (line ∷ lines) bytes after =
    (text rest : List ℕ) × (between : A) × Gives before n line text between × AreTexts Gives between (n + 1) lines rest after × (bytes ≡ text ++ rest)

-- the text of these lines, counted from 1, where this was kept before them
abbrev pub IsTextFrom : {A : Type 0} → (A → ℕ → List ℕ → List ℕ → A → Type 0) → A → List (List ℕ) → List ℕ → Type 0
IsTextFrom {A = A} Gives before lines text = (after : A) × AreTexts Gives before 1 lines text after
