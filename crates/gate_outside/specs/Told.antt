-- What is told of a content, before a call and after it.
use Rattle.std.specs.Prelude.{◌≡◌, ◌+◌, nat_le, if◌then◌else◌, List, ℕ, ◌++◌, length, Option, Some, None, ⊤}

-- Where the old content is told, the new one is too, and this piece left its front.
abbrev pub Leaves : Option (List ℕ) → Option (List ℕ) → List ℕ → Type 0
Leaves None new piece = ⊤
Leaves (Some old) None piece = ⊥
Leaves (Some old) (Some new) piece = old ≡ piece ++ new

-- Where the new content is told, the old one was too, and this piece came at its end.
abbrev pub Joins : Option (List ℕ) → Option (List ℕ) → List ℕ → Type 0
Joins old None piece = ⊤
Joins None (Some new) piece = ⊥
Joins (Some old) (Some new) piece = new ≡ old ++ piece

-- What an output in memory tells, and how many bytes it tells at most.
pub record Told : Type 0 where
  pub taken : Option (List ℕ)
  pub room : ℕ

-- what is told once this piece was taken: nothing, where the room is passed
abbrev pub told_with : Option (List ℕ) → ℕ → List ℕ → Option (List ℕ)
told_with None room piece = None
told_with (Some taken) room piece = if nat_le (length taken + length piece) room then Some (taken ++ piece) else None
