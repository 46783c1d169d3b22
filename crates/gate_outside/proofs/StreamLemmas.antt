-- What std says of a read, as a source says it.
use Rattle.std.proofs.Common.{◌≡◌, ℕ, ◌<◌, ◌≤◌, List, [], ◌++◌, length, take, ap, arith}
use Rattle.std.specs.Prelude.{◌↔◌, Option, Some, None, Ok}
use Rattle.std.proofs.lemmas.List.{length-append, length-take-le}
use Rattle.std.specs.Io.KnownBytes.{Consumes, IsAtEnd}
use Rattle.gate_outside.specs.Source.{TellsEnd}

-- What is left begins with so many bytes of a buffer.
ends_together : (left rest buffer : List ℕ) (count : ℕ) → count ≤ length buffer → left ≡ take count buffer ++ rest → (count ≡ 0 → rest ≡ [])
    → (count ≡ 0) ↔ (left ≡ [])
ends_together left rest buffer count bound whole end = (
  (λ none. let nothing : rest ≡ [] = end none in cc (ap (λ (n : ℕ). take n buffer) none)),
  (λ empty. omega (arith, ap length whole, ap length empty, length-append (take count buffer) rest, length-take-le count buffer bound)),
)

pub tells_end : (E : Type 0) (old new : Option (List ℕ)) (buffer : List ℕ) (count : ℕ) → count ≤ length buffer → Consumes old new (take count buffer)
    → (count ≡ 0 → 0 < length buffer → IsAtEnd new) → TellsEnd {E = E} old buffer (Ok count)
tells_end E None new buffer count bound consumes end = λ room left is. cc
tells_end E (Some xs) None buffer count bound consumes end = absurd consumes
tells_end E (Some xs) (Some ys) buffer count bound consumes end = λ room left is.
    ends_together left ys buffer count bound (cc) (λ none. end none room)
