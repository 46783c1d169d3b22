-- Which values fit, and that there is room for their bits.
use Rattle.std.proofs.Common.{◌≡◌, ℕ, ◌+◌, ◌-◌, ◌^◌, ◌<◌, ◌≤◌, Bool, true, false, List, ◌++◌, length, drop, slice_index_or, ap, length-append, arith}
use Rattle.std.specs.Prelude.{ℤ, pos, ◌-ℤ◌, ◌≤ℤ◌, unsigned_abs}
use Rattle.std.specs.Int.{IsInRange}
use Rattle.std.specs.List.{flat_map}
use Rattle.std.proofs.Math.Seq.{drop-cons}
use Rattle.std.proofs.lemmas.Int.{ints}
use Rattle.std.proofs.lemmas.Nat.{pow_below}
use Rattle.std.proofs.Math.Nat.{pow-le-pow_right}
use Rattle.ais_report.specs.declared.field.Field.{Field}
use Rattle.ais_report.specs.Fields.{Fits, field_bits, flag, pattern_of, signed, unsigned}
use Rattle.ais_report.proofs.BitLemmas.{length-bits}

pub unsigned_fits : (w n : ℕ) → n < 2 ^ w → Fits (unsigned w n)
unsigned_fits w n below = (omega (arith, ints), omega (arith, ints, below))

pub flag_fits : (b : Bool) → Fits (flag b)
flag_fits true = unsigned_fits 1 1 (omega arith)
flag_fits false = unsigned_fits 1 0 (omega arith)

pub signed_fits : (w : ℕ) (v : ℤ) → unsigned_abs v < 2 ^ (w - 1) → Fits (signed w v)
signed_fits w v below = (omega (arith, ints, below), omega (arith, ints, below))

-- the next field has room where all have it
pub next_has_room : (out start : List Bool) (fields : List Field) (i limit : ℕ) → i < length fields
    → out ++ flat_map field_bits (drop i fields) ≡ start ++ flat_map field_bits fields
    → length start + length (flat_map field_bits fields) ≤ limit
    → length out + (slice_index_or fields i (record { width = 0; signed = false; value = pos 0 })).width ≤ limit
next_has_room out start fields i limit inside whole room =
    let none : Field = record { width = 0; signed = false; value = pos 0 } in
    let f = slice_index_or fields i none in
    let lengths = simp length-append at (ap length whole) in
    let parts = simp length-append at (ap (λ fs. length (flat_map field_bits fs)) (drop-cons fields i none inside)) in
    omega (arith, lengths, parts, length-bits f.width (pattern_of f.width f.value), room)

-- a value that fits so many bits, and what it is as two's complement, is a number of 32 bits
pub value_bounds : (w : ℕ) (s : Bool) (v : ℤ) → IsInRange 1 31 w → Fits (record { width = w; signed = s; value = v })
    → ((pos 0 -ℤ pos (2 ^ w)) ≤ℤ v) × (v ≤ℤ pos 2147483647)
value_bounds w true v range fits =
    let half = pow_below (w - 1) w (omega arith) in
    let most = pow-le-pow_right {n = 2} (omega arith) {i = w} {j = 31} (omega arith) in
    (omega (arith, ints, fits.0), omega (arith, ints, fits.1))
value_bounds w false v range fits =
    let most = pow-le-pow_right {n = 2} (omega arith) {i = w} {j = 31} (omega arith) in
    (omega (arith, ints, fits.0), omega (arith, ints, fits.1))
