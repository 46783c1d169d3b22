-- Parts of a payload: what is read of them is in its range, and what is written in them is read back.
use Rattle.std.proofs.Common.{◌≡◌, ◌≤◌, ◌<◌, ◌+◌, ◌-◌, ◌*◌, ◌^◌, ◌%◌, ℕ, ℤ, pos, negsuc, ◌⊎◌, inl, inr, ◌-ℤ◌, Bool, true, false, ◌&&◌, ◌||◌, ◌==◌, nat_lt, nat_le, List, [], ◌∷◌, ◌++◌, length, take, drop, get_or, Option, Some, None, refl, sym, ap, ◌∙◌, arith}
use Rattle.std.proofs.Math.Nat.{mod-eq_of_lt, mul-div_cancel, mul-le-mul_right, one-le-pow}
use Rattle.std.proofs.Math.Seq.{drop-append-add, drop-append_seam, take-append_seam}
use Rattle.std.proofs.lemmas.Bool.{and_parts, false≢true, not-true, or_cases}
use Rattle.std.proofs.lemmas.Bool.Decides.{nat_tests}
use Rattle.std.proofs.lemmas.Int.{ints}
use Rattle.std.proofs.lemmas.List.{drop-append-le, drop-drop, drop-take, get_or-drop, get_or-take, length-append, length-drop, length-take-le, take-append-le, take-take}
use Rattle.std.proofs.lemmas.Slice.{drop-append-drop}
use Rattle.std.specs.Prelude.{int_lt, not, slice_index, unwrap_or, if◌then◌else◌}
use Rattle.std.specs.List.{list_all, splice}
use Rattle.readings.specs.Numbers.{bits_of, signed_at, unsigned_at}
use Rattle.readings.specs.declared.range.Range.{Range}
use Rattle.readings.specs.Ranges.{Admits, from_to, up_to}
use Rattle.pgn_profile.specs.Part.{available, largest_signed, largest_unsigned, signed_from, signed_value, unsigned_from, unsigned_value, AreIn, Content, IsIn, Part, ValueOf, Values, bits_at, bytes_in, code, filled, flag, known, multiple, signed_number, times, unsigned_number, value_in, values_in}
use Rattle.pgn_profile.proofs.ReadBack.{signed_back, signed_fits, unsigned_back, unsigned_fits}
use Rattle.pgn_profile.proofs.Pieces.{length_number_bytes}

-- ---- what is read is in its range

available_in : (largest : ℤ) (range : Range) (value : ℤ) → Admits range (available largest range value)
available_in largest range value = by (int_lt value range.low) refl (int_lt range.high value) refl (int_lt value (largest -ℤ pos 2))
  where
    by : (low : Bool) → int_lt value range.low ≡ low → (high : Bool) → int_lt range.high value ≡ high → (few : Bool)
        → Admits range (if low then None else if high then None else if few then Some value else None)
    by true l high h few = tt
    by false l true h few = tt
    by false l false h false = tt
    by false l false h true = (grind (arith, ints), grind (arith, ints))

unsigned_in : (place width : ℕ) (range : Range) (p : List ℕ) → Admits range (unsigned_value place width range p)
unsigned_in place width range p = by (unsigned_at p place width)
  where
    by : (o : Option ℕ) → Admits range (unsigned_from width range o)
    by None = tt
    by (Some value) = available_in (largest_unsigned width) range (pos value)

signed_in : (place width : ℕ) (range : Range) (p : List ℕ) → Admits range (signed_value place width range p)
signed_in place width range p = by (signed_at p place width)
  where
    by : (o : Option ℤ) → Admits range (signed_from width range o)
    by None = tt
    by (Some value) = available_in (largest_signed width) range value

known_in : (most n : ℕ) → Admits (up_to most) (Some (pos (known most n)))
known_in most n = by (nat_le n most) refl
  where
    by : (b : Bool) → nat_le n most ≡ b → Admits (up_to most) (Some (pos (if b then n else 0)))
    by true le = (grind (arith, ints, nat_tests), grind (arith, ints, nat_tests))
    by false le = (grind (arith, ints), grind (arith, ints))

times_in : (factor low high : ℕ) (value : Option ℤ) → Admits (from_to (pos low) (pos high)) value
    → Admits (from_to (pos (low * factor)) (pos (high * factor))) (times factor value)
times_in factor low high None is = tt
times_in factor low high (Some (pos n)) is =
    let least : low * factor ≤ n * factor = mul-le-mul_right factor (omega (arith, ints, is.0)) in
    let most : n * factor ≤ high * factor = mul-le-mul_right factor (omega (arith, ints, is.1)) in
    (omega (arith, ints, least), omega (arith, ints, most))
times_in factor low high (Some (negsuc n)) is = absurd (omega (arith, ints, is.0))

content_in : (content : Content) (place width : ℕ) (p : List ℕ) (More : Type 0) → More → IsIn content (value_in content place width p) More
content_in (unsigned_number range) place width p More more = (unsigned_in place width range p, more)
content_in (signed_number range) place width p More more = (signed_in place width range p, more)
content_in (multiple factor low high) place width p More more =
    let range = from_to (pos low) (pos high) in
    (times_in factor low high (unsigned_value place width range p) (unsigned_in place width range p), more)
content_in (code low count most) place width p More more = (known_in most (bits_at place low count p), more)
content_in (flag count off on) place width p More more = more

pub are_in : (parts : List Part) (p : List ℕ) → AreIn parts (values_in parts p)
are_in [] p = tt
are_in (part ∷ parts) p = content_in part.content part.place part.width p (AreIn parts (values_in parts p)) (are_in parts p)

-- ---- what is written is read back

-- the content can be written in so many bytes, and read back
abbrev is_writable : Content → ℕ → Bool
is_writable (unsigned_number range) width = unsigned_fits width range
is_writable (signed_number range) width = signed_fits width range
is_writable (multiple factor low high) width = false
is_writable (code low count most) width = width == 1 && nat_lt most (2 ^ count)
is_writable (flag count off on) width = width == 1 && not (bits_of off 0 count == 1) && bits_of on 0 count == 1

-- the part has none of so many bytes at a place
abbrev is_apart : ℕ → ℕ → Part → Bool
is_apart at n part = nat_le (at + n) part.place || nat_le (part.place + part.width) at

-- each part can be written within so many bytes, and no two parts share one
abbrev pub is_well_formed : ℕ → List Part → Bool
is_well_formed size [] = true
is_well_formed size (part ∷ parts) =
    nat_le (part.place + part.width) size && is_writable part.content part.width && list_all (is_apart part.place part.width) parts && is_well_formed size parts

bytes_fill : (content : Content) (width : ℕ) (v : ValueOf content) → is_writable content width ≡ true → length (bytes_in content width v) ≡ width
bytes_fill (unsigned_number range) width v writable = length_number_bytes width (unwrap_or v (largest_unsigned width))
bytes_fill (signed_number range) width v writable = length_number_bytes width (unwrap_or v (largest_signed width))
bytes_fill (multiple factor low high) width v writable = absurd (false≢true writable)
bytes_fill (code low count most) width v writable = grind (arith, nat_tests)
bytes_fill (flag count off on) width v writable = grind (arith, nat_tests)

-- the same bytes stand there in both
record IsKept (place width : ℕ) (a b : List ℕ) : Type 0 where
  size : length b ≡ length a
  bytes : take width (drop place b) ≡ take width (drop place a)

module _ (xs ys : List ℕ) (place width : ℕ) (inside : place + width ≤ length xs) (size : length ys ≡ width) where
  abbrev whole : List ℕ
  whole = splice xs place (place + width) ys

  start : length (take place xs) ≡ place
  start = length-take-le place xs (omega arith)

  spliced_size : length whole ≡ length xs
  spliced_size =
      let parts = length-append (take place xs) (ys ++ drop (place + width) xs) in
      let rest = length-append ys (drop (place + width) xs) in
      let left = length-drop (place + width) xs in
      omega (arith, parts, rest, left, start, size)

  spliced_here : take width (drop place whole) ≡ ys
  spliced_here =
      ap (λ (n : ℕ). take width (drop n whole)) (sym start)
      ∙ ap (take width) (drop-append_seam (take place xs) (ys ++ drop (place + width) xs))
      ∙ ap (λ (n : ℕ). take n (ys ++ drop (place + width) xs)) (sym size)
      ∙ take-append_seam ys (drop (place + width) xs)

  spliced_before : (at n : ℕ) → at + n ≤ place → take n (drop at whole) ≡ take n (drop at xs)
  spliced_before at n before =
      let more : place ≡ at + (place - at) = omega arith in
      let front : drop at (take place xs) ≡ take (place - at) (drop at xs) = ap (λ (k : ℕ). drop at (take k xs)) more ∙ drop-take at (place - at) xs in
      let few : n ≤ length (drop at (take place xs)) = omega (arith, start, length-drop at (take place xs)) in
      ap (take n) (drop-append-le at (take place xs) (ys ++ drop (place + width) xs) (omega (arith, start)))
      ∙ take-append-le n (drop at (take place xs)) (ys ++ drop (place + width) xs) few
      ∙ ap (take n) front
      ∙ take-take n (place - at) (drop at xs) (omega arith)

  spliced_behind : (at n : ℕ) → place + width ≤ at → take n (drop at whole) ≡ take n (drop at xs)
  spliced_behind at n behind =
      let more : at ≡ place + (at - place) = omega arith in
      let there : at ≡ length (take place xs) + (at - place) = omega (arith, start) in
      ap (take n)
      (ap (λ (k : ℕ). drop k whole) there
      ∙ drop-append-add (take place xs) (ys ++ drop (place + width) xs) (at - place)
      ∙ ap (λ (zs : List ℕ). drop (at - place) (ys ++ zs)) (sym (drop-drop width place xs))
      ∙ drop-append-drop width (drop place xs) ys (at - place) (omega arith) size
      ∙ drop-drop (at - place) place xs
      ∙ ap (λ (k : ℕ). drop k xs) (sym more))

  spliced_kept : (at n : ℕ) → (nat_le (at + n) place || nat_le (place + width) at) ≡ true → IsKept at n xs whole
  spliced_kept at n apart = record { size = spliced_size; bytes = by (or_cases (nat_le (at + n) place) (nat_le (place + width) at) apart) }
    where
      by : (nat_le (at + n) place ≡ true) ⊎ (nat_le (place + width) at ≡ true) → take n (drop at whole) ≡ take n (drop at xs)
      by (inl before) = spliced_before at n (grind (arith, nat_tests))
      by (inr behind) = spliced_behind at n (grind (arith, nat_tests))

byte_at : (payload : List ℕ) (at byte : ℕ) → take 1 (drop at payload) ≡ byte ∷ [] → slice_index payload at ≡ byte
byte_at payload at byte there =
    ap (λ (n : ℕ). get_or payload n 0) (omega arith) ∙ sym (get_or-drop at payload 0 0) ∙ sym (get_or-take 1 (drop at payload) 0 0 (omega arith))
    ∙ ap (λ (bytes : List ℕ). get_or bytes 0 0) there

code_back : (low count most v : ℕ) → most < 2 ^ count → v ≤ most → known most (bits_of (v * 2 ^ low) low count) ≡ v
code_back low count most v small within =
    let some : 0 < 2 ^ low = one-le-pow low 2 (omega arith) in
    let same : bits_of (v * 2 ^ low) low count ≡ v =
    ap (λ (n : ℕ). n % 2 ^ count) (mul-div_cancel v some) ∙ mod-eq_of_lt {n = v} {m = 2 ^ count} (omega arith) in
    let test : nat_le v most ≡ true = grind (arith, nat_tests) in
    rw (same, test) refl

-- the value is read where its bytes stand
content_back : (content : Content) (v : ValueOf content) (More : Type 0) (payload : List ℕ) (place width : ℕ) → is_writable content width ≡ true
    → nat_le (place + width) (length payload) ≡ true → take width (drop place payload) ≡ bytes_in content width v → IsIn content v More
    → value_in content place width payload ≡ v
content_back (unsigned_number range) v More payload place width fits inside there is = unsigned_back payload place width range v fits inside there is.0
content_back (signed_number range) v More payload place width fits inside there is = signed_back payload place width range v fits inside there is.0
content_back (multiple factor low high) v More payload place width fits inside there is = absurd (false≢true fits)
content_back (code low count most) v More payload place width fits inside there is =
    let tests = and_parts (width == 1) (nat_lt most (2 ^ count)) fits in
    let one : 1 ≡ width = grind (arith, nat_tests) in
    let byte = byte_at payload place (v * 2 ^ low) (ap (λ (n : ℕ). take n (drop place payload)) one ∙ there) in
    ap (λ (n : ℕ). known most (bits_of n low count)) byte ∙ code_back low count most v (grind (arith, nat_tests)) (omega (arith, ints, is.0.1))
content_back (flag count off on) v More payload place width fits inside there is = by v there
  where
    tests : ((width == 1 && not (bits_of off 0 count == 1)) ≡ true) × ((bits_of on 0 count == 1) ≡ true)
    tests = and_parts (width == 1 && not (bits_of off 0 count == 1)) (bits_of on 0 count == 1) fits

    firsts : ((width == 1) ≡ true) × (not (bits_of off 0 count == 1) ≡ true)
    firsts = and_parts (width == 1) (not (bits_of off 0 count == 1)) tests.0

    one : 1 ≡ width
    one = let is_one = firsts.0 in grind (arith, nat_tests)

    by : (b : Bool) → take width (drop place payload) ≡ (if b then on else off) ∷ [] → (bits_at place 0 count payload == 1) ≡ b
    by true stands =
        ap (λ (n : ℕ). bits_of n 0 count == 1) (byte_at payload place on (ap (λ (n : ℕ). take n (drop place payload)) one ∙ stands)) ∙ tests.1
    by false stands =
        ap (λ (n : ℕ). bits_of n 0 count == 1) (byte_at payload place off (ap (λ (n : ℕ). take n (drop place payload)) one ∙ stands))
        ∙ not-true (bits_of off 0 count == 1) firsts.1

more : (content : Content) (v : ValueOf content) (More : Type 0) → IsIn content v More → More
more (code low count most) v More is = is.1
more (flag count off on) v More is = is
more (unsigned_number range) v More is = is.1
more (signed_number range) v More is = is.1
more (multiple factor low high) v More is = is.1

-- ---- several parts

-- the tests of a list of parts that is well formed, one by one
record Tests (size : ℕ) (part : Part) (parts : List Part) : Type 0 where
  inside : nat_le (part.place + part.width) size ≡ true
  writable : is_writable part.content part.width ≡ true
  apart : list_all (is_apart part.place part.width) parts ≡ true
  others : is_well_formed size parts ≡ true

tests_of : (size : ℕ) (part : Part) (parts : List Part) → is_well_formed size (part ∷ parts) ≡ true → Tests size part parts
tests_of size part parts formed =
    let third = and_parts (nat_le (part.place + part.width) size && is_writable part.content part.width && list_all (is_apart part.place part.width) parts)
    (is_well_formed size parts) formed in
    let second = and_parts (nat_le (part.place + part.width) size && is_writable part.content part.width) (list_all (is_apart part.place part.width) parts) third.0 in
    let first = and_parts (nat_le (part.place + part.width) size) (is_writable part.content part.width) second.0 in
    record { inside = first.0; writable = first.1; apart = second.1; others = third.1 }

-- bytes in which no part stands are kept
kept_by : (at n : ℕ) (parts : List Part) (v : Values parts) (payload : List ℕ) → is_well_formed (length payload) parts ≡ true
    → list_all (is_apart at n) parts ≡ true → IsKept at n payload (filled parts v payload)
kept_by at n [] v payload formed apart = record { size = refl; bytes = refl }
kept_by at n (part ∷ parts) v payload formed apart =
    let tests = tests_of (length payload) part parts formed in
    let inside : part.place + part.width ≤ length payload = let is = tests.inside in grind (arith, nat_tests) in
    let bytes = bytes_in part.content part.width v.0 in
    let size = bytes_fill part.content part.width v.0 tests.writable in
    let aparts = and_parts (is_apart at n part) (list_all (is_apart at n) parts) apart in
    let here = spliced_kept payload bytes part.place part.width inside size at n aparts.0 in
    let next = splice payload part.place (part.place + part.width) bytes in
    let there = kept_by at n parts v.1 next (ap (λ (k : ℕ). is_well_formed k parts) here.size ∙ tests.others) aparts.1 in
    record { size = there.size ∙ here.size; bytes = there.bytes ∙ here.bytes }

pair_same : {A B : Type 0} {x y : A × B} → x.0 ≡ y.0 → x.1 ≡ y.1 → x ≡ y
pair_same {A} {B} {x} {y} first second =
    let one : A → A × B = λ a. (a, x.1) in
    let other : B → A × B = λ b. (y.0, b) in
    ap one first ∙ ap other second

pub written_back : (parts : List Part) (v : Values parts) (payload : List ℕ) → is_well_formed (length payload) parts ≡ true → AreIn parts v
    → values_in parts (filled parts v payload) ≡ v
written_back [] v payload formed are = refl
written_back (part ∷ parts) v payload formed are =
    let tests = tests_of (length payload) part parts formed in
    let inside : part.place + part.width ≤ length payload = let is = tests.inside in grind (arith, nat_tests) in
    let bytes = bytes_in part.content part.width v.0 in
    let size = bytes_fill part.content part.width v.0 tests.writable in
    let next = splice payload part.place (part.place + part.width) bytes in
    let same = spliced_size payload bytes part.place part.width inside size in
    let formed_next = ap (λ (k : ℕ). is_well_formed k parts) same ∙ tests.others in
    let others = kept_by part.place part.width parts v.1 next formed_next tests.apart in
    let there = others.bytes ∙ spliced_here payload bytes part.place part.width inside size in
    let fits = ap (nat_le (part.place + part.width)) (others.size ∙ same) ∙ tests.inside in
    pair_same (content_back part.content v.0 (AreIn parts v.1) (filled parts v.1 next) part.place part.width tests.writable fits there are)
    (written_back parts v.1 next formed_next (more part.content v.0 (AreIn parts v.1) are))
