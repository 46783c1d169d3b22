-- What a read does to what is left.
use Rattle.std.specs.Prelude.{◌≡◌, ◌<◌, ◌↔◌, ℕ, List, [], take, length, Option, Some, Result, Ok, Err}
use Rattle.gate_outside.specs.Told.{Leaves}

-- The next bytes go into the front of the buffer, or, where the call fails, none.
abbrev pub Reads : {E : Type 0} → Option (List ℕ) → Option (List ℕ) → List ℕ → Result ℕ E → Type 0
Reads old new buffer (Ok count) = Leaves old new (take count buffer)
Reads old new buffer (Err e) = Leaves old new []

-- A count of 0 for a buffer that has room comes exactly where nothing is left.
abbrev pub TellsEnd : {E : Type 0} → Option (List ℕ) → List ℕ → Result ℕ E → Type 0
TellsEnd old buffer (Ok count) = 0 < length buffer → (left : List ℕ) → old ≡ Some left → (count ≡ 0) ↔ (left ≡ [])
TellsEnd old buffer (Err e) = Unit {0}
