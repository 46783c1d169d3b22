-- The front of a line as nearly all are laid out.
use Rattle.std.specs.Prelude.{ℕ, ◌<◌, ◌≤◌, Bool, nat_le, List, slice_index}
use Rattle.std.specs.List.{list_all}
use Rattle.capture_text.specs.declared.usual.TheConstants.{GREATEST, LEAST}

-- so many bytes lie each between the least and the greatest of its place
abbrev pub IsFrontTo : ℕ → List ℕ → Type 0
IsFrontTo n front = (k : ℕ) → k < n → (slice_index LEAST k ≤ slice_index front k) × (slice_index front k ≤ slice_index GREATEST k)

abbrev pub IsFront : List ℕ → Type 0
IsFront front = IsFrontTo 48 front

-- no byte is a control character, such as LF and CR
abbrev pub has_no_controls : List ℕ → Bool
has_no_controls line = list_all (λ c. nat_le 32 c) line
