-- What was written of what waited to be.
use Rattle.std.specs.Prelude.{◌≡◌, ◌≢◌, ℕ, List, [], ◌++◌, Option, Result, Ok, Err}
use Rattle.gate_outside.specs.Told.{Joins}

-- Of these bytes some were written, and these are left.
pub record Sends (told told' : Option (List ℕ)) (bytes left : List ℕ) : Type 0 where
  pub sent : List ℕ
  pub joins : Joins told told' sent
  pub whole : sent ++ left ≡ bytes

-- Some of these bytes may have been written, and some are left.
pub record SendsPart (told told' : Option (List ℕ)) (bytes : List ℕ) : Type 0 where
  pub left : List ℕ
  pub sends : Sends told told' bytes left
  pub some : left ≢ []

-- what a call that writes does: where it succeeds these are left, and where it fails some are
abbrev pub Writes : {T E : Type 0} → Option (List ℕ) → Option (List ℕ) → List ℕ → List ℕ → Result T E → Type 0
Writes told told' bytes left (Ok done) = Sends told told' bytes left
Writes told told' bytes left (Err e) = (some : List ℕ) × Sends told told' bytes some

-- a text of which this is said waits behind what waited, or some of both is written
abbrev pub SendsText : {E : Type 0} → (List ℕ → Type 0) → Option (List ℕ) → Option (List ℕ) → List ℕ → List ℕ → Result (Unit {0}) E → Type 0
SendsText IsText told told' waiting waiting' result = (text : List ℕ) × IsText text × Writes told told' (waiting ++ text) waiting' result
