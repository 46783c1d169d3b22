-- Pieces, one after the other.
use Rattle.std.proofs.Common.{◌≡◌, ◌≤◌, ◌<◌, ◌+◌, ◌-◌, ◌/◌, ◌^◌, ℕ, ℤ, pos, List, ◌++◌, length, drop, get_or, to_z, w64, ap, ◌∙◌, arith, length-append}
use Rattle.std.proofs.Math.Nat.{div-le_self}
use Rattle.std.proofs.Math.Seq.{drop-cons}
use Rattle.std.proofs.lemmas.Int.{to_z_pos}
use Rattle.std.proofs.lemmas.Nat.Bits.{ones_shr}
use Rattle.std.specs.List.{flat_map}
use Rattle.byteorder.specs.Endian.{low_bytes}
use Rattle.byteorder.specs.Numbers.{length-bytes_low_first}
use Rattle.pgn_profile.specs.declared.piece.Piece.{Piece}
use Rattle.pgn_profile.specs.Part.{number_bytes}
use Rattle.pgn_profile.specs.Piece.{bytes_of}

pub length_number_bytes : (width : ℕ) (value : ℤ) → length (number_bytes width value) ≡ width
length_number_bytes width value = length-bytes_low_first 0 width (low_bytes w64 width value)

-- the largest i64 without its highest bits
pub largest_shifted : (bits shift : ℕ) → bits + shift ≡ 63 → to_z w64 (9223372036854775807 / 2 ^ shift) ≡ pos (2 ^ bits - 1)
largest_shifted bits shift sum =
    let small : 9223372036854775807 / 2 ^ shift ≤ 9223372036854775807 = div-le_self 9223372036854775807 (2 ^ shift) in
    let left : 63 - shift ≡ bits = omega arith in
    to_z_pos w64 (9223372036854775807 / 2 ^ shift) (omega arith)
    ∙ ap pos (ones_shr 63 shift (omega arith) ∙ ap (λ (n : ℕ). 2 ^ n - 1) left)

-- the next piece has room where the whole has it
pub next_has_room : (out start : List ℕ) (pieces : List Piece) (i limit : ℕ) (d : Piece) → i < length pieces
    → out ++ flat_map bytes_of (drop i pieces) ≡ start ++ flat_map bytes_of pieces
    → length start + length (flat_map bytes_of pieces) ≤ limit → length out + length (bytes_of (get_or pieces i d)) ≤ limit
next_has_room out start pieces i limit d inside whole room =
    let lengths = simp length-append at (ap length whole) in
    let parts = simp length-append at (ap (λ ps. length (flat_map bytes_of ps)) (drop-cons pieces i d inside)) in
    omega (arith, lengths, parts)
