-- The bytes of the pieces from which payloads are made.
use Rattle.std.specs.Prelude.{ℕ, ◌≤◌, List, [], ◌∷◌}
use Rattle.pgn_profile.specs.declared.piece.Piece.{Piece}
use Rattle.pgn_profile.specs.declared.piece.Piece.TheVariants.{Bytes, Byte, Unsigned, Signed}
use Rattle.pgn_profile.specs.Part.{unsigned_bytes, signed_bytes}

abbrev pub bytes_of : Piece → List ℕ
bytes_of (Bytes bytes) = bytes.now
bytes_of (Byte byte) = byte ∷ []
bytes_of (Unsigned width value) = unsigned_bytes width value
bytes_of (Signed width value) = signed_bytes width value

-- the piece has a width that can be written
abbrev pub HasWidth : Piece → Type 0
HasWidth (Unsigned width value) = (1 ≤ width) × (width ≤ 7)
HasWidth (Signed width value) = (1 ≤ width) × (width ≤ 8)
HasWidth _ = Unit {0}
