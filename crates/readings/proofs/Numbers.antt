-- What a read of a field's bytes gives is the value of those bytes.
use Rattle.std.proofs.Common.{◌≡◌, ◌≤◌, ◌+◌, ◌-◌, ℕ, zero, suc, ℤ, List, [], ◌∷◌, length, take, drop, Some, refl, ap, arith, ◌∙◌, sym}
use Rattle.std.proofs.lemmas.List.{length-drop, take_all}
use Rattle.std.proofs.lemmas.Bool.Decides.{nat_tests}
use Rattle.byteorder.specs.Endian.{little_number, twos_complement as signed}
use Rattle.byteorder.specs.Numbers.{little_from-cons}
use Rattle.readings.specs.Numbers.{little_endian, twos_complement, field_at, unsigned_at, signed_at}

little_endian-take : (n : ℕ) (xs : List ℕ) → n ≤ length xs → little_endian (take n xs) ≡ little_number n xs
little_endian-take zero xs h = refl
little_endian-take (suc n) [] h = absurd (omega arith)
little_endian-take (suc n) (x ∷ xs) h =
    let moved = little_from-cons 0 n x xs in
    let rest = little_endian-take n xs (omega arith) in
    omega (arith, moved, rest)

pub field_within : (bytes : List ℕ) (at width : ℕ) → at + width ≤ length bytes → field_at bytes at width ≡ Some (take width (drop at bytes))
field_within bytes at width h = grind (arith, nat_tests)

-- the value of the field is the number that stands first in what is left from its place on
value-within : (bytes : List ℕ) (at width : ℕ) → at + width ≤ length bytes
    → little_number width (take (length bytes - at) (drop at bytes)) ≡ little_endian (take width (drop at bytes))
value-within bytes at width inside =
    let left : length (drop at bytes) ≡ length bytes - at = length-drop at bytes in
    rw (take_all (length bytes - at) (drop at bytes) (omega arith)) (sym (little_endian-take width (drop at bytes) (omega arith)))

pub unsigned_within : (bytes : List ℕ) (at width number : ℕ) → at + width ≤ length bytes
    → number ≡ little_number width (take (length bytes - at) (drop at bytes)) → Some number ≡ unsigned_at bytes at width
unsigned_within bytes at width number inside e =
    let same : number ≡ little_endian (take width (drop at bytes)) = e ∙ value-within bytes at width inside in
    rw (field_within bytes at width inside) (ap Some same)

pub signed_within : (bytes : List ℕ) (at width : ℕ) (number : ℤ) → at + width ≤ length bytes
    → number ≡ signed width (little_number width (take (length bytes - at) (drop at bytes))) → Some number ≡ signed_at bytes at width
signed_within bytes at width number inside e =
    let same : number ≡ twos_complement width (little_endian (take width (drop at bytes))) =
    e ∙ ap (twos_complement width) (value-within bytes at width inside) in
    rw (field_within bytes at width inside) (ap Some same)
