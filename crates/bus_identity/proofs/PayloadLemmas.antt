-- What is said, piece by piece.
use Rattle.std.specs.List.{flat_map}
use Rattle.std.proofs.Math.Seq.{drop-cons}
use Rattle.std.proofs.Common.{◌≡◌, ℕ, ◌+◌, ◌*◌, ◌<◌, ◌≤◌, List, [], ◌∷◌, ◌++◌, length, drop, refl, ap, length-append, arith}
use Rattle.bus_identity.specs.Payloads.{pgn_bytes}

-- a group has three bytes
pub length_groups : (pgns : List ℕ) → length (flat_map pgn_bytes pgns) ≡ 3 * length pgns
length_groups [] = refl
length_groups (pgn ∷ pgns) = omega (arith, length_groups pgns)

-- the next group has room where all have it
pub next_has_room : (out start pgns : List ℕ) (i limit : ℕ) → i < length pgns
    → out ++ flat_map pgn_bytes (drop i pgns) ≡ start ++ flat_map pgn_bytes pgns
    → length start + length (flat_map pgn_bytes pgns) ≤ limit → length out + 3 ≤ limit
next_has_room out start pgns i limit inside whole room =
    let lengths = simp length-append at (ap length whole) in
    let parts = simp length-append at (ap (λ ps. length (flat_map pgn_bytes ps)) (drop-cons pgns i 0 inside)) in
    omega (arith, lengths, parts)
