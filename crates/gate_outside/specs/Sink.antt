-- What a write does to what was taken.
use Rattle.std.specs.Prelude.{ℕ, List, [], take, Option, Result, Ok, Err}
use Rattle.gate_outside.specs.Told.{Joins}

-- The first bytes of the piece come at the end, or, where the call fails, none.
abbrev pub Writes : {E : Type 0} → Option (List ℕ) → Option (List ℕ) → List ℕ → Result ℕ E → Type 0
Writes old new piece (Ok count) = Joins old new (take count piece)
Writes old new piece (Err e) = Joins old new []
