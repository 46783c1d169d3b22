-- A value that is written is read back.
use Rattle.std.proofs.Common.{◌≡◌, ◌≤◌, ◌<◌, ◌+◌, ◌-◌, ◌*◌, ◌^◌, ◌%◌, ℕ, zero, suc, ℤ, pos, negsuc, ◌≤ℤ◌, ◌-ℤ◌, Bool, true, false, ◌&&◌, nat_lt, nat_le, List, [], ◌∷◌, length, take, drop, Option, Some, None, unwrap_or, w64, refl, sym, ap, ◌∙◌, arith}
use Rattle.std.proofs.Math.Nat.{mod-eq_of_lt, mul-add-mod_self_right, one-le-pow, pow-suc, pow-succ'}
use Rattle.std.proofs.lemmas.Bool.{and_parts}
use Rattle.std.proofs.lemmas.Bool.Decides.{nat_tests}
use Rattle.std.proofs.lemmas.Int.{ints}
use Rattle.std.proofs.lemmas.List.{append-nil}
use Rattle.std.proofs.lemmas.Nat.{pow-add}
use Rattle.std.specs.Prelude.{int_lt, not}
use Rattle.byteorder.specs.Endian.{little_bytes, little_number, low_bytes}
use Rattle.byteorder.specs.Numbers.{length-bytes_low_first, little_from-cons, little_number-reads_back}
use Rattle.readings.specs.Numbers.{field_at, little_endian, signed_at, signed_in, twos_complement, unsigned_at, unsigned_in}
use Rattle.readings.specs.declared.range.Range.{Range}
use Rattle.readings.specs.Ranges.{Admits, Holds}
use Rattle.pgn_profile.specs.Part.{available, largest_signed, largest_unsigned, number_bytes, signed_bytes, signed_from, signed_value, unsigned_bytes, unsigned_from, unsigned_value}
use Rattle.pgn_profile.proofs.Available.{available_outside, available_within}

pow256 : (n : ℕ) → 256 ^ n ≡ 2 ^ (8 * n)
pow256 zero = refl
pow256 (suc n) =
    let more : 8 * suc n ≡ 8 * n + 8 = omega arith in
    rw (pow-suc 256 n, pow256 n, more, pow-add 2 (8 * n) 8) refl

-- ---- the bytes of a number

bytes_value : (xs : List ℕ) → little_endian xs ≡ little_number (length xs) xs
bytes_value [] = refl
bytes_value (x ∷ xs) =
    let moved = little_from-cons 0 (length xs) x xs in
    let rest = bytes_value xs in
    omega (arith, moved, rest)

value_of_bytes : (width n : ℕ) → n < 2 ^ (8 * width) → little_endian (little_bytes width n) ≡ n
value_of_bytes width n fits =
    let size : n < 256 ^ width = rw (pow256 width) fits in
    bytes_value (little_bytes width n)
    ∙ ap (λ (k : ℕ). little_number k (little_bytes width n)) (length-bytes_low_first 0 width n)
    ∙ ap (little_number width) (sym (append-nil (little_bytes width n)))
    ∙ little_number-reads_back width n [] size

field_written : (payload bytes : List ℕ) (place width : ℕ) → nat_le (place + width) (length payload) ≡ true
    → take width (drop place payload) ≡ bytes → field_at payload place width ≡ Some bytes
field_written payload bytes place width inside there = rw inside (ap Some there)

-- ---- two's complement

-- the number is one of so many bytes
abbrev IsOf : ℕ → ℤ → Type 0
IsOf width (pos n) = n < 2 ^ (8 * width - 1)
IsOf width (negsuc n) = n < 2 ^ (8 * width - 1)

twice : (width : ℕ) → 1 ≤ width → 2 ^ (8 * width) ≡ 2 * 2 ^ (8 * width - 1)
twice width low =
    let whole : 8 * width ≡ suc (8 * width - 1) = omega arith in
    ap (λ (e : ℕ). 2 ^ e) whole ∙ pow-succ' 2 (8 * width - 1)

below_multiple : (q m j : ℕ) → 1 ≤ q → 1 ≤ j → j ≤ m → (q * m - j) % m ≡ m - j
below_multiple zero m j some over within = absurd (omega arith)
below_multiple (suc p) m j some over within =
    let parts : suc p * m - j ≡ p * m + (m - j) = grind arith in
    ap (λ (n : ℕ). n % m) parts ∙ mul-add-mod_self_right p m (m - j) ∙ mod-eq_of_lt (omega arith)

low_bytes_negsuc : (width n : ℕ) → width ≤ 8 → suc n ≤ 2 ^ (8 * width) → low_bytes w64 width (negsuc n) ≡ 2 ^ (8 * width) - suc n
low_bytes_negsuc width n high small =
    let whole : 64 - 8 * width + 8 * width ≡ 64 = omega arith in
    let product : 2 ^ 64 ≡ 2 ^ (64 - 8 * width) * 2 ^ (8 * width) = ap (λ (e : ℕ). 2 ^ e) (sym whole) ∙ pow-add 2 (64 - 8 * width) (8 * width) in
    let some : 1 ≤ 2 ^ (64 - 8 * width) = one-le-pow (64 - 8 * width) 2 (omega arith) in
    ap (λ (m : ℕ). (m - suc n) % 2 ^ (8 * width)) product
    ∙ below_multiple (2 ^ (64 - 8 * width)) (2 ^ (8 * width)) (suc n) some (omega arith) small

low_bytes_fit : (width : ℕ) (z : ℤ) → 1 ≤ width → width ≤ 8 → IsOf width z → low_bytes w64 width z < 2 ^ (8 * width)
low_bytes_fit width (pos n) low high fits =
    let double = twice width low in
    rw (mod-eq_of_lt {n = n} {m = 2 ^ (8 * width)} (omega arith)) (omega arith)
low_bytes_fit width (negsuc n) low high fits =
    let double = twice width low in
    rw (low_bytes_negsuc width n high (omega arith)) (omega arith)

twos_back : (width : ℕ) (z : ℤ) → 1 ≤ width → width ≤ 8 → IsOf width z → twos_complement width (low_bytes w64 width z) ≡ z
twos_back width (pos n) low high fits =
    let double = twice width low in
    let same : n % 2 ^ (8 * width) ≡ n = mod-eq_of_lt (omega arith) in
    let positive : nat_lt n (2 ^ (8 * width - 1)) ≡ true = grind (arith, nat_tests) in
    rw (same, positive) refl
twos_back width (negsuc n) low high fits =
    let double = twice width low in
    let same = low_bytes_negsuc width n high (omega arith) in
    let negative : nat_lt (2 ^ (8 * width) - suc n) (2 ^ (8 * width - 1)) ≡ false = grind (arith, nat_tests) in
    rw (same, negative) (omega (arith, ints))

-- ---- a number in a payload

unsigned_written : (payload : List ℕ) (place width n : ℕ) → n < 2 ^ (8 * width) → nat_le (place + width) (length payload) ≡ true
    → take width (drop place payload) ≡ number_bytes width (pos n) → unsigned_at payload place width ≡ Some n
unsigned_written payload place width n fits inside there =
    ap unsigned_in (field_written payload (number_bytes width (pos n)) place width inside there)
    ∙ ap (λ (m : ℕ). Some (little_endian (little_bytes width m))) (mod-eq_of_lt fits)
    ∙ ap Some (value_of_bytes width n fits)

signed_written : (payload : List ℕ) (place width : ℕ) (z : ℤ) → 1 ≤ width → width ≤ 8 → IsOf width z → nat_le (place + width) (length payload) ≡ true
    → take width (drop place payload) ≡ number_bytes width z → signed_at payload place width ≡ Some z
signed_written payload place width z low high fits inside there =
    let value = value_of_bytes width (low_bytes w64 width z) (low_bytes_fit width z low high fits) in
    ap (signed_in width) (field_written payload (number_bytes width z) place width inside there)
    ∙ ap (λ (m : ℕ). Some (twos_complement width m)) value
    ∙ ap Some (twos_back width z low high fits)

-- ---- the value of a field

-- the range holds values of so many bytes, none of which says that there is none
abbrev pub unsigned_fits : ℕ → Range → Bool
unsigned_fits width range = not (int_lt range.low (pos 0)) && not (int_lt (largest_unsigned width -ℤ pos 3) range.high)

abbrev pub signed_fits : ℕ → Range → Bool
signed_fits width range =
    nat_lt 0 width && nat_le width 8 && not (int_lt range.low (pos 0 -ℤ pos (2 ^ (8 * width - 1)))) && not (int_lt (largest_signed width -ℤ pos 3) range.high)

above : (low high : ℤ) → not (int_lt high low) ≡ true → low ≤ℤ high
above low high e = grind (arith, ints)

-- what is above a range is in no such range
largest_is_outside : (largest : ℤ) (range : Range) → range.high ≤ℤ (largest -ℤ pos 3) → Holds range largest → ⊥
largest_is_outside largest range ends inside = omega (arith, ints)

back : (largest : ℤ) (range : Range) (value : Option ℤ) → range.high ≤ℤ (largest -ℤ pos 3) → Admits range value
    → available largest range (unwrap_or value largest) ≡ value
back largest range None ends within = available_outside largest range largest (largest_is_outside largest range ends)
back largest range (Some v) ends within = available_within largest range v ends within

written_unsigned : (width : ℕ) (range : Range) (value : Option ℤ) → pos 0 ≤ℤ range.low → range.high ≤ℤ (largest_unsigned width -ℤ pos 3)
    → Admits range value → (n : ℕ) × (n < 2 ^ (8 * width)) × (pos n ≡ unwrap_or value (largest_unsigned width))
written_unsigned width range None low high within =
    let some : 1 ≤ 2 ^ (8 * width) = one-le-pow (8 * width) 2 (omega arith) in
    (2 ^ (8 * width) - 1, omega arith, refl)
written_unsigned width range (Some (pos n)) low high within = (n, omega (arith, ints), refl)
written_unsigned width range (Some (negsuc n)) low high within = absurd (omega (arith, ints))

pub unsigned_back : (payload : List ℕ) (place width : ℕ) (range : Range) (value : Option ℤ) → unsigned_fits width range ≡ true
    → nat_le (place + width) (length payload) ≡ true → take width (drop place payload) ≡ unsigned_bytes width value
    → Admits range value → unsigned_value place width range payload ≡ value
unsigned_back payload place width range value fits inside there within =
    let tests = and_parts (not (int_lt range.low (pos 0))) (not (int_lt (largest_unsigned width -ℤ pos 3) range.high)) fits in
    let low : pos 0 ≤ℤ range.low = above (pos 0) range.low tests.0 in
    let high : range.high ≤ℤ (largest_unsigned width -ℤ pos 3) = above range.high (largest_unsigned width -ℤ pos 3) tests.1 in
    let number = written_unsigned width range value low high within in
    let bytes : unsigned_bytes width value ≡ number_bytes width (pos number.0) = ap (number_bytes width) (sym number.2) in
    let read = unsigned_written payload place width number.0 number.1 inside (there ∙ bytes) in
    ap (unsigned_from width range) read
    ∙ ap (available (largest_unsigned width) range) number.2
    ∙ back (largest_unsigned width) range value high within

is_of : (width : ℕ) (range : Range) (value : Option ℤ) → (pos 0 -ℤ pos (2 ^ (8 * width - 1))) ≤ℤ range.low → range.high ≤ℤ (largest_signed width -ℤ pos 3)
    → Admits range value → IsOf width (unwrap_or value (largest_signed width))
is_of width range None low high within =
    let some : 1 ≤ 2 ^ (8 * width - 1) = one-le-pow (8 * width - 1) 2 (omega arith) in
    omega arith
is_of width range (Some (pos n)) low high within = omega (arith, ints)
is_of width range (Some (negsuc n)) low high within = omega (arith, ints)

pub signed_back : (payload : List ℕ) (place width : ℕ) (range : Range) (value : Option ℤ) → signed_fits width range ≡ true
    → nat_le (place + width) (length payload) ≡ true → take width (drop place payload) ≡ signed_bytes width value
    → Admits range value → signed_value place width range payload ≡ value
signed_back payload place width range value fits inside there within =
    let lowest = pos 0 -ℤ pos (2 ^ (8 * width - 1)) in
    let last = and_parts (nat_lt 0 width && nat_le width 8 && not (int_lt range.low lowest)) (not (int_lt (largest_signed width -ℤ pos 3) range.high)) fits in
    let third = and_parts (nat_lt 0 width && nat_le width 8) (not (int_lt range.low lowest)) last.0 in
    let widths = and_parts (nat_lt 0 width) (nat_le width 8) third.0 in
    let low : lowest ≤ℤ range.low = above lowest range.low third.1 in
    let high : range.high ≤ℤ (largest_signed width -ℤ pos 3) = above range.high (largest_signed width -ℤ pos 3) last.1 in
    let narrowest : 1 ≤ width = grind (arith, nat_tests) in
    let widest : width ≤ 8 = grind (arith, nat_tests) in
    let read = signed_written payload place width (unwrap_or value (largest_signed width)) narrowest widest (is_of width range value low high within) inside there in
    ap (signed_from width range) read ∙ back (largest_signed width) range value high within
