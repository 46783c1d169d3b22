-- A raw value that is printed and read back is printed the same.
use Rattle.std.proofs.Common.{◌≡◌, ℕ, zero, suc, ◌+◌, ◌*◌, ◌/◌, ◌^◌, ◌<◌, ◌≤◌, ◌⊎◌, ℤ, pos, negsuc, ◌*ℤ◌, Bool, true, false, Option, Some, None, Result, Ok, List, [], ◌∷◌, map, refl, sym, ap, ◌∙◌, inl, inr, arith}
use Rattle.std.specs.Prelude.{◌&&◌, ◌||◌, ◌==◌, not, nat_le, nat_lt, unsigned_abs, is_some, IsTrue, if◌then◌else◌}
use Rattle.std.proofs.lemmas.Bool.{le-leb}
use Rattle.std.proofs.lemmas.Bool.Decides.{nat_tests}
use Rattle.std.proofs.lemmas.Int.{ints, unsigned_abs-mul}
use Rattle.std.proofs.lemmas.Nat.{mul-le}
use Rattle.readings.specs.Ranges as ranges
use Rattle.readings.specs.Ranges.{Admits, Holds}
use Rattle.unit_fraction.specs.declared.decimal.Decimal.{Decimal as Number}
use Rattle.unit_fraction.specs.declared.decimal.DecimalFault.{DecimalFault}
use Rattle.unit_fraction.specs.Round.{nearest, round, signed}
use Rattle.unit_fraction.specs.Text.{decimal_text, shows_minus}
use Rattle.unit_fraction.specs.Reading.{read}
use Rattle.unit_fraction.proofs.DecimalLaws.{written_again}
use Rattle.unit_fraction.proofs.Nearest.{nearest_between}
use Rattle.unit_fraction.proofs.Round.{round_signed}
use Rattle.unit_fraction.proofs.ThereAndBack.{sizes}
use Rattle.sentence_fields.specs.declared.written_unit.WrittenUnit.{WrittenUnit}
use Rattle.sentence_profile.specs.declared.read_unit.ReadUnit.{ReadUnit}
use Rattle.sentence_fields.specs.declared.field.Field.TheVariants.{Decimal, Degrees, Magnitude, Side}
use Rattle.sentence_profile.specs.Columns.{range_of, given}
use Rattle.sentence_fields.specs.Field.{count, degrees_text, is_negative, text_of}
use Rattle.sentence_profile.specs.Columns as spec
use Rattle.sentence_fields.proofs.Bodies.{abs-neg, abs-round}

-- a unit that is written and a quantity that is read are each other's inverse, and the ends of the range stay within it
pub record Paired (u : WrittenUnit) (q : ReadUnit) : Type 0 where
  pub den : 0 < u.den
  pub by : 0 < 10 ^ u.places * q.den
  pub inverse : q.num * u.num ≡ 10 ^ u.places * q.den * u.den
  pub one_is_finer : (u.den ≤ u.num) ⊎ (10 ^ u.places * q.den ≤ q.num)
  pub places : u.places < 12
  pub short : nearest (q.most * u.num) u.den < 10 ^ 12
  pub within : nearest (nearest (q.most * u.num) u.den * q.num) (10 ^ u.places * q.den) ≤ q.most

-- the nearest whole number, which computes
abbrev pub quotient : ℕ → ℕ → ℕ
quotient n d = (2 * n + d) / (2 * d)

pub nearest_quotient : (n d : ℕ) → quotient n d ≡ nearest n d
unfolding nearest
nearest_quotient n d = refl

-- the same as a test
abbrev pub is_paired : WrittenUnit → ReadUnit → Bool
is_paired u q =
    let by = 10 ^ u.places * q.den in
    let most = quotient (q.most * u.num) u.den in
    nat_lt 0 u.den && nat_lt 0 by && (q.num * u.num == by * u.den) && (nat_le u.den u.num || nat_le by q.num)
    && nat_lt u.places 12 && nat_lt most (10 ^ 12) && nat_le (quotient (most * q.num) by) q.most

pub paired : (u : WrittenUnit) (q : ReadUnit) → IsTrue (is_paired u q) → Paired u q
paired u q h =
    let e = nearest_quotient (q.most * u.num) u.den in
    let g = nearest_quotient (quotient (q.most * u.num) u.den * q.num) (10 ^ u.places * q.den) in
    record {
      den = grind (arith, nat_tests);
      by = grind (arith, nat_tests);
      inverse = grind (arith, nat_tests);
      one_is_finer = grind (arith, nat_tests);
      places = grind (arith, nat_tests);
      short = rw (← e) (grind (arith, nat_tests));
      within = rw (← e, ← g) (grind (arith, nat_tests));
    }

-- ---- sizes

pub nearest_mono : (a b d : ℕ) → 0 < d → a ≤ b → nearest a d ≤ nearest b d
nearest_mono a b d positive le =
    let low = nearest_between a d positive in
    let high = nearest_between b d positive in
    less (nearest a d) (nearest b d) d (omega (arith, low.low, high.high))
  where
    less : (m n d : ℕ) → 2 * (m * d) < 2 * (n * d) + 2 * d → m ≤ n
    less m n d h = grind arith

-- what is printed of a raw value, and what is read of it again
abbrev pub printed : WrittenUnit → ℕ → ℕ
printed u size = nearest (size * u.num) u.den

abbrev pub read_size : ReadUnit → WrittenUnit → ℕ → ℕ
read_size q u digits = nearest (digits * q.num) (10 ^ u.places * q.den)

pub printed_again : (u : WrittenUnit) (q : ReadUnit) (size : ℕ) → Paired u q → printed u (read_size q u (printed u size)) ≡ printed u size
printed_again u q size p = elim p.one_is_finer [
  | inl le ↦ ap (printed u) (sizes size u.num u.den q.num (10 ^ u.places * q.den) p.den p.by le (omega (arith, p.inverse)))
  | inr le ↦ sizes (printed u size) q.num (10 ^ u.places * q.den) u.num u.den p.by p.den le p.inverse
]

pub printed_read : (u : WrittenUnit) (q : ReadUnit) (digits : ℕ) → Paired u q → 10 ^ u.places * q.den ≤ q.num → printed u (read_size q u digits) ≡ digits
printed_read u q digits p le = sizes digits q.num (10 ^ u.places * q.den) u.num u.den p.by p.den le p.inverse

pub same_size : (u : WrittenUnit) (q : ReadUnit) (size : ℕ) → Paired u q → u.den ≤ u.num → read_size q u (printed u size) ≡ size
same_size u q size p le = sizes size u.num u.den q.num (10 ^ u.places * q.den) p.den p.by le (omega (arith, p.inverse))

pub printed_small : (u : WrittenUnit) (q : ReadUnit) (size : ℕ) → Paired u q → size ≤ q.most → printed u size < 10 ^ 12
printed_small u q size p le = omega (arith, p.short, nearest_mono (size * u.num) (q.most * u.num) u.den p.den (mul-le size u.num q.most u.num le (omega arith)))

pub read_within : (u : WrittenUnit) (q : ReadUnit) (size : ℕ) → Paired u q → size ≤ q.most → read_size q u (printed u size) ≤ q.most
read_within u q size p le =
    let one = nearest_mono (size * u.num) (q.most * u.num) u.den p.den (mul-le size u.num q.most u.num le (omega arith)) in
    omega (arith, p.within, nearest_mono (printed u size * q.num) (printed u q.most * q.num) (10 ^ u.places * q.den) p.by (mul-le (printed u size) q.num (printed u q.most) q.num one (omega arith)))

-- ---- signs

pub abs-signed : (negative : Bool) (n : ℕ) → unsigned_abs (signed negative n) ≡ n
abs-signed negative n = grind (arith, abs-neg)

pub sign_size : (c : ℤ) → signed (is_negative c) (unsigned_abs c) ≡ c
sign_size c = grind arith

pub count_size : (u : WrittenUnit) (raw : ℤ) → unsigned_abs (count u raw) ≡ printed u (unsigned_abs raw)
count_size u raw = abs-round (raw *ℤ pos u.num) u.den ∙ ap (λ (n : ℕ). nearest n u.den) (unsigned_abs-mul raw (pos u.num))

signed-mul : (negative : Bool) (n k : ℕ) → signed negative n *ℤ pos k ≡ signed negative (n * k)
signed-mul true zero k = grind arith
signed-mul true (suc n) k = refl
signed-mul false n k = refl

pub count_signed : (u : WrittenUnit) (negative : Bool) (n : ℕ) → 0 < u.den → count u (signed negative n) ≡ signed negative (printed u n)
count_signed u negative n positive = ap (λ (x : ℤ). round x u.den) (signed-mul negative n u.num) ∙ round_signed negative (n * u.num) u.den positive

shows : (c : ℤ) → shows_minus (is_negative c) (unsigned_abs c) ≡ is_negative c
shows c = grind (arith, nat_tests)

-- ---- the raw value that is read back

abbrev pub again : ReadUnit → WrittenUnit → ℤ → ℤ
again q u raw = signed (is_negative (count u raw)) (read_size q u (unsigned_abs (count u raw)))

abbrev pub back : ReadUnit → WrittenUnit → Option ℤ → Option ℤ
back q u None = None
back q u (Some raw) = Some (again q u raw)

pub count_again : (u : WrittenUnit) (q : ReadUnit) (raw : ℤ) → Paired u q → count u (again q u raw) ≡ count u raw
count_again u q raw p =
    let negative = is_negative (count u raw) in
    count_signed u negative (read_size q u (unsigned_abs (count u raw))) p.den
    ∙ ap (λ (n : ℕ). signed negative (printed u (read_size q u n))) (count_size u raw)
    ∙ ap (signed negative) (printed_again u q (unsigned_abs raw) p)
    ∙ ap (signed negative) (sym (count_size u raw))
    ∙ sign_size (count u raw)

pub size_again : (u : WrittenUnit) (q : ReadUnit) (raw : ℤ) → Paired u q → unsigned_abs raw ≤ q.most → read_size q u (unsigned_abs (count u raw)) ≤ q.most
size_again u q raw p le = rw (count_size u raw) (read_within u q (unsigned_abs raw) p le)

pub count_short : (u : WrittenUnit) (q : ReadUnit) (raw : ℤ) → Paired u q → unsigned_abs raw ≤ q.most → unsigned_abs (count u raw) < 10 ^ 12
count_short u q raw p le = rw (count_size u raw) (printed_small u q (unsigned_abs raw) p le)

pub same_decimal : (u : WrittenUnit) (q : ReadUnit) (raw : Option ℤ) → Paired u q → text_of (Decimal (back q u raw) u) ≡ text_of (Decimal raw u)
same_decimal u q None p = refl
same_decimal u q (Some raw) p = ap (λ (c : ℤ). decimal_text (is_negative c) (unsigned_abs c) u.places) (count_again u q raw p)

pub same_sided : (u : WrittenUnit) (q : ReadUnit) (raw : Option ℤ) (first second : ℕ) → Paired u q
    → map text_of (Magnitude (back q u raw) u ∷ Side (back q u raw) u first second ∷ []) ≡ map text_of (Magnitude raw u ∷ Side raw u first second ∷ [])
same_sided u q None first second p = refl
same_sided u q (Some raw) first second p =
    ap (λ (c : ℤ). decimal_text false (unsigned_abs c) u.places ∷ ((if is_negative c then second else first) ∷ []) ∷ []) (count_again u q raw p)

pub same_coordinate : (u : WrittenUnit) (q : ReadUnit) (raw : Option ℤ) (width first second : ℕ) → Paired u q
    → map text_of (Degrees (back q u raw) u width ∷ Side (back q u raw) u first second ∷ []) ≡ map text_of (Degrees raw u width ∷ Side raw u first second ∷ [])
same_coordinate u q None width first second p = refl
same_coordinate u q (Some raw) width first second p =
    ap (λ (c : ℤ). degrees_text width (unsigned_abs c) ∷ ((if is_negative c then second else first) ∷ []) ∷ []) (count_again u q raw p)

pub there_again : (u : WrittenUnit) (q : ReadUnit) (raw : Option ℤ) → is_some (back q u raw) ≡ is_some raw
there_again u q raw = grind arith

abbrev some_size : ℕ → Option ℤ
some_size n = Some (pos n)

-- ---- reading the text of a number

-- the text is read as this value, whatever the field's number
abbrev pub ReadsAs : ReadUnit → List ℕ → Option ℤ → Type 0
ReadsAs q bytes v = (at : ℕ) → given (spec.decimal_in at q.signed (read bytes)) (spec.scaled at q) ≡ Ok v

pub reads_nothing : (q : ReadUnit) → ReadsAs q [] None
unfolding read
reads_nothing q at = refl

raw_signed : (q : ReadUnit) (u : WrittenUnit) (negative : Bool) (digits : ℕ) → 0 < 10 ^ u.places * q.den
    → spec.raw_of q (record { negative = negative; digits = digits; places = u.places }) ≡ signed negative (read_size q u digits)
unfolding spec.raw_of
raw_signed q u negative digits positive = round_signed negative (digits * q.num) (10 ^ u.places * q.den) positive

-- a decimal within the range
pub scales : (q : ReadUnit) (u : WrittenUnit) (negative : Bool) (digits at : ℕ) → 0 < 10 ^ u.places * q.den → read_size q u digits ≤ q.most
    → spec.scaled at q (Some (record { negative = negative; digits = digits; places = u.places })) ≡ Ok (Some (signed negative (read_size q u digits)))
scales q u negative digits at positive le =
    let raw = raw_signed q u negative digits positive in
    let size : unsigned_abs (signed negative (read_size q u digits)) ≤ q.most = rw (abs-signed negative (read_size q u digits)) le in
    let fits : nat_le (unsigned_abs (signed negative (read_size q u digits))) q.most ≡ true = le-leb (unsigned_abs (signed negative (read_size q u digits))) q.most size in
    rw (raw, fits) refl

abbrev said_of : Bool → ℕ → ℕ → Result Number DecimalFault
said_of negative digits places = Ok (record { negative = negative; digits = digits; places = places })

pub reads_digits : (q : ReadUnit) (u : WrittenUnit) (negative : Bool) (digits : ℕ) → Paired u q → (negative && not q.signed) ≡ false → shows_minus negative digits ≡ negative
    → digits < 10 ^ 12 → read_size q u digits ≤ q.most → ReadsAs q (decimal_text negative digits u.places) (Some (signed negative (read_size q u digits)))
reads_digits q u negative digits p fits shown short le at =
    let said : read (decimal_text negative digits u.places) ≡ Ok (record { negative = negative; digits = digits; places = u.places }) =
    written_again negative digits u.places short p.places ∙ ap (λ (b : Bool). said_of b digits u.places) shown in
    rw (said, fits) (scales q u negative digits at p.by le)

-- what a quantity's range says of a raw value's size, and of its sign where none may be written
pub no_more_either : (most : ℕ) (raw : ℤ) → Holds (ranges.either_side most) raw → unsigned_abs raw ≤ most
no_more_either most raw h = omega (arith, ints, h.0, h.1)

no_more : (signed : Bool) (most : ℕ) (raw : ℤ) → Holds (if signed then ranges.either_side most else ranges.up_to most) raw → unsigned_abs raw ≤ most
no_more signed most raw h = grind (arith, ints)

sign_fits : (u : WrittenUnit) (signed : Bool) (most : ℕ) (raw : ℤ) → Holds (if signed then ranges.either_side most else ranges.up_to most) raw
    → (is_negative (count u raw) && not signed) ≡ false
sign_fits u true most raw h = never (is_negative (count u raw))
  where
    never : (b : Bool) → (b && false) ≡ false
    never true = refl
    never false = refl
sign_fits u false most (pos n) h = refl
sign_fits u false most (negsuc n) h = absurd (omega (arith, ints, h.0))

pub reads_decimal : (q : ReadUnit) (u : WrittenUnit) (raw : Option ℤ) → Paired u q → Admits (range_of q) raw → ReadsAs q (text_of (Decimal raw u)) (back q u raw)
reads_decimal q u None p h = reads_nothing q
reads_decimal q u (Some raw) p h =
    let le = no_more q.signed q.most raw h in
    reads_digits q u (is_negative (count u raw)) (unsigned_abs (count u raw)) p (sign_fits u q.signed q.most raw h) (shows (count u raw)) (count_short u q raw p le) (size_again u q raw p le)

-- a unit that is finer than the raw value loses nothing of it, where it has no sign
pub exact : (q : ReadUnit) (u : WrittenUnit) (v : Option ℤ) → Paired u q → u.den ≤ u.num → Admits (ranges.up_to q.most) v → back q u v ≡ v
exact q u None p le h = refl
exact q u (Some (pos n)) p le h = ap (λ (x : ℕ). some_size x) (same_size u q n p le)
exact q u (Some (negsuc n)) p le h = absurd (omega (arith, ints, h.0))

pub reads_magnitude : (q : ReadUnit) (u : WrittenUnit) (raw : ℤ) → Paired u q → unsigned_abs raw ≤ q.most
    → ReadsAs q (text_of (Magnitude (Some raw) u)) (Some (pos (read_size q u (unsigned_abs (count u raw)))))
reads_magnitude q u raw p le = reads_digits q u false (unsigned_abs (count u raw)) p refl refl (count_short u q raw p le) (size_again u q raw p le)
