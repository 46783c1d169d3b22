-- What the fields of a sentence are read as, where their texts are known.
use Rattle.std.proofs.Common.{◌≡◌, ℕ, ◌+◌, ◌%◌, ◌*◌, ◌<◌, ◌≤◌, ℤ, pos, Bool, true, false, Option, Some, None, Result, Ok, List, [], ◌∷◌, length, length-append, map, refl, ap, subst, ◌∙◌, arith, zero, suc, ◌/◌, ◌^◌, ◌++◌, take, drop, sym, ◌≤ℤ◌, ◌<ℤ◌, inl}
use Rattle.std.specs.Prelude.{◌==◌, nat_lt, unsigned_abs, is_none, is_some, IsTrue, if◌then◌else◌, nat_le, ◌||◌}
use Rattle.std.proofs.lemmas.Bool.{eq-eqb, le-ltb, le-leb, lt-leb, lt-ltb, ltb-true}
use Rattle.readings.specs.Ranges as ranges
use Rattle.readings.specs.Ranges.{Admits, Holds, date as date_range}
use Rattle.unit_fraction.specs.Round.{nearest, signed}
use Rattle.unit_fraction.specs.Text.{decimal_text, decimals}
use Rattle.sentence_fields.specs.declared.written_unit.WrittenUnit.{WrittenUnit}
use Rattle.sentence_profile.specs.declared.read_unit.ReadUnit.{ReadUnit}
use Rattle.sentence_profile.specs.declared.fault.FieldFault.{FieldFault}
use Rattle.sentence_fields.specs.declared.field.Field.{Field}
use Rattle.sentence_fields.specs.declared.field.Field.TheVariants.{Angle, Decimal, Magnitude, Side, Degrees, Satellites, Time, Digits}
use Rattle.sentence_profile.specs.Columns.{range_of, given}
use Rattle.sentence_fields.specs.Field as unit
use Rattle.sentence_fields.specs.Field.{count, is_negative, text_of, degrees_text, time_text, letter_where}
use Rattle.sentence_profile.specs.Columns as spec
use Rattle.sentence_profile.proofs.Again.{Paired, ReadsAs, back, exact, is_paired, nearest_mono, no_more_either, paired, printed, printed_read, read_size, reads_decimal, reads_digits, reads_magnitude, reads_nothing, same_decimal, same_sided, there_again, count_size, nearest_quotient, quotient, same_coordinate, scales, size_again}
use Rattle.std.specs.Char.{is_ascii_digit}
use Rattle.std.specs.Fmt.{decimal}
use Rattle.std.specs.List.{list_all}
use Rattle.std.proofs.Math.Nat.{pow-succ'}
use Rattle.std.proofs.lemmas.Bool.Decides.{nat_tests}
use Rattle.std.proofs.lemmas.Int.{ints, by_lt_z}
use Rattle.std.proofs.lemmas.Fmt.{decimal_nonempty, digits_decimal, digits_value-decimal, length-decimal-le}
use Rattle.std.proofs.lemmas.List.{take_at, drop_at}
use Rattle.std.proofs.lemmas.List.Folds.{list_all-append}
use Rattle.std.proofs.lemmas.Nat.{mul-le}
use Rattle.unit_fraction.specs.Digits.{number_after, number}
use Rattle.unit_fraction.proofs.Number.{number_after_append}
use Rattle.unit_fraction.proofs.Text.{length-decimals, own}
use Rattle.sentence_profile.specs.declared.fixed.Fixed.{Fixed}
use Rattle.sentence_profile.proofs.DigitNumbers.{list_all_digits}
use Rattle.std.specs.Int.{IsInRange}
use Rattle.jiff_core.specs.declared.civil.date.Date.{Date}
use Rattle.jiff_core.specs.Date.{epoch_day}
use Rattle.jiff_core.proofs.DateLemmas.{epoch_day-lt}
use Rattle.jiff_core.specs.Calendar.{days_in_month, is_leap_year, day_count, days_from_civil}
use Rattle.sentence_profile.proofs.CivilDates.{no_months, years_least}
use Rattle.sentence_profile.proofs.Dates.{dated, inside}

abbrev pub Fields : Type 0
Fields = List (List ℕ)

abbrev pub texts : List Field → Fields
texts fields = map text_of fields

-- what a column reads of the fields that a value is written in: a value that is written the same, and there where that one is
pub record Back (column : Result (Option ℤ) FieldFault) (written : Option ℤ → List Field) (v : Option ℤ) : Type 0 where
  pub value : Option ℤ
  pub is : column ≡ Ok value
  pub same : texts (written value) ≡ texts (written v)
  pub there : is_some value ≡ is_some v

pub counted_in : (f : Fields) (at : ℕ) → at ≤ length f → spec.unkept f at ≡ None
unfolding spec.unkept
counted_in f at le = let h : nat_lt (length f) at ≡ false = le-ltb (length f) at le in rw h refl

-- ---- numbers

pub number_of : (f : Fields) (at : ℕ) (q : ReadUnit) (bytes : List ℕ) (v : Option ℤ) → spec.field_at f at ≡ Some bytes → ReadsAs q bytes v → spec.number f at q ≡ Ok v
unfolding spec.number spec.decimal
number_of f at q bytes v e h = rw e (h at)

pub number_back : (f : Fields) (at : ℕ) (q : ReadUnit) (u : WrittenUnit) (v : Option ℤ) → IsTrue (is_paired u q) → Admits (range_of q) v
    → spec.field_at f at ≡ Some (text_of (Decimal v u)) → Back (spec.number f at q) (λ x. Decimal x u ∷ []) v
number_back f at q u v pair held e =
    let p = paired u q pair in
    record {
      value = back q u v;
      is = number_of f at q (text_of (Decimal v u)) (back q u v) e (reads_decimal q u v p held);
      same = ap (λ (t : List ℕ). t ∷ []) (same_decimal u q v p);
      there = there_again u q v;
    }

-- a number without a sign, of which its unit loses nothing
pub reads_exactly : (q : ReadUnit) (u : WrittenUnit) (v : Option ℤ) → IsTrue (is_paired u q) → u.den ≤ u.num → range_of q ≡ ranges.up_to q.most → Admits (ranges.up_to q.most) v
    → ReadsAs q (text_of (Decimal v u)) v
reads_exactly q u v pair fine up held =
    let p = paired u q pair in
    let in_range : Admits (range_of q) v = rw up held in
    subst (λ (x : Option ℤ). ReadsAs q (text_of (Decimal v u)) x) (exact q u v p fine held) (reads_decimal q u v p in_range)

-- ---- the letters of units

pub unit_of : (f : Fields) (at letter : ℕ) (beside_nothing : Bool) → spec.field_at f at ≡ Some (letter ∷ []) → spec.unit_letter f at letter beside_nothing ≡ None
unfolding spec.unit_letter
unit_of f at letter beside_nothing e = let same : (letter == letter) ≡ true = eq-eqb letter letter refl in rw (e, same) refl

pub measure_of : (f : Fields) (at : ℕ) (q : ReadUnit) (letter : ℕ) (v : Option ℤ) → spec.number f at q ≡ Ok v → spec.field_at f (at + 1) ≡ Some (letter ∷ [])
    → spec.measure f at q letter ≡ Ok v
unfolding spec.measure
measure_of f at q letter v n e = rw (n, unit_of f (at + 1) letter (is_none v) e) refl

pub measured : (f : Fields) (at : ℕ) (q : ReadUnit) (u : WrittenUnit) (letter : ℕ) (v : Option ℤ) → IsTrue (is_paired u q) → Admits (range_of q) v
    → spec.field_at f at ≡ Some (text_of (Decimal v u)) → spec.field_at f (at + 1) ≡ Some (letter ∷ []) → Back (spec.measure f at q letter) (λ x. Decimal x u ∷ []) v
measured f at q u letter v pair held e l =
    let n = number_back f at q u v pair held e in
    record { value = n.value; is = measure_of f at q letter n.value n.is l; same = n.same; there = n.there }

-- the first of two measures that is there
abbrev pub first_of_two : Option ℤ → Option ℤ → Option ℤ
first_of_two None b = b
first_of_two (Some x) b = Some x

pub either_of : (f : Fields) (at : ℕ) (q : ReadUnit) (letter : ℕ) (other : ReadUnit) (other_letter : ℕ) (a b : Option ℤ) → spec.measure f at q letter ≡ Ok a
    → (a ≡ None → spec.measure f (at + 2) other other_letter ≡ Ok b) → at + 3 ≤ length f → spec.either_unit f at q letter other other_letter ≡ Ok (first_of_two a b)
unfolding spec.either_unit
either_of f at q letter other other_letter None b m n long = rw (m, n refl) refl
either_of f at q letter other other_letter (Some x) b m n long = rw (m, counted_in f (at + 2) (omega arith), counted_in f (at + 3) (omega arith)) refl

-- ---- statuses, modes and references

pub status_of : (f : Fields) (at : ℕ) (beside_nothing there : Bool) → spec.field_at f at ≡ Some (letter_where there 65 86 ∷ []) → spec.status f at beside_nothing ≡ Ok there
unfolding spec.status
status_of f at beside_nothing there e = grind arith

pub mode_said : (f : Fields) (at : ℕ) (there : Bool) → spec.field_at f at ≡ Some (letter_where there 65 86 ∷ []) → spec.heading_mode f at ≡ Ok there
unfolding spec.heading_mode
mode_said f at there e = grind arith

pub reference_of : (f : Fields) (at : ℕ) (from_true : Bool) → spec.field_at f at ≡ Some ((if from_true then 84 else 82) ∷ []) → spec.reference f at ≡ Ok from_true
unfolding spec.reference
reference_of f at from_true e = grind arith

-- ---- sides

side_of : (f : Fields) (at first second : ℕ) (b : Bool) → (first == second) ≡ false → spec.field_at f at ≡ Some ((if b then second else first) ∷ [])
    → spec.side f at first second false ≡ Ok b
unfolding spec.side
side_of f at first second b ne e = grind arith

side_nowhere : (f : Fields) (at first second : ℕ) (bytes : List ℕ) → spec.field_at f at ≡ Some bytes → spec.side f at first second true ≡ Ok false
unfolding spec.side
side_nowhere f at first second bytes e = rw e refl

toward_signed : (b : Bool) (n : ℕ) → spec.toward b (Some (pos n)) ≡ Some (signed b n)
toward_signed b n = grind arith

abbrev said_value : Option ℤ → Result (Option ℤ) FieldFault
said_value v = Ok v

-- a size that is read, and the letter of its sign behind it
abbrev pub size_of : ReadUnit → WrittenUnit → Option ℤ → Option ℤ
size_of q u None = None
size_of q u (Some raw) = Some (pos (read_size q u (unsigned_abs (count u raw))))

pub toward_of : (f : Fields) (at : ℕ) (q : ReadUnit) (u : WrittenUnit) (raw : Option ℤ) (first second : ℕ) (size : Result (Option ℤ) FieldFault) → size ≡ Ok (size_of q u raw)
    → (first == second) ≡ false → spec.field_at f at ≡ Some (text_of (Side raw u first second))
    → given size (λ v. given (spec.side f at first second (is_none v)) (λ n. Ok (spec.toward n v))) ≡ Ok (back q u raw)
toward_of f at q u None first second size is ne s = rw (is, side_nowhere f at first second [] s) refl
toward_of f at q u (Some raw) first second size is ne s =
    let negative = is_negative (count u raw) in
    rw (is, side_of f at first second negative ne s) (ap said_value (toward_signed negative (read_size q u (unsigned_abs (count u raw)))))

reads_size : (q : ReadUnit) (u : WrittenUnit) (raw : Option ℤ) → Paired u q → Admits (ranges.either_side q.most) raw → ReadsAs q (text_of (Magnitude raw u)) (size_of q u raw)
reads_size q u None p h = reads_nothing q
reads_size q u (Some raw) p h = reads_magnitude q u raw p (no_more_either q.most raw h)

pub sided_back : (f : Fields) (at : ℕ) (q : ReadUnit) (u : WrittenUnit) (v : Option ℤ) (first second : ℕ) → IsTrue (is_paired u q) → Admits (ranges.either_side q.most) v
    → (first == second) ≡ false → spec.field_at f at ≡ Some (text_of (Magnitude v u)) → spec.field_at f (at + 1) ≡ Some (text_of (Side v u first second))
    → Back (spec.sided f at q first second) (λ x. Magnitude x u ∷ Side x u first second ∷ []) v
unfolding spec.sided
sided_back f at q u v first second pair held ne e s =
    let p = paired u q pair in
    let size = number_of f at q (text_of (Magnitude v u)) (size_of q u v) e (reads_size q u v p held) in
    record { value = back q u v; is = toward_of f (at + 1) q u v first second (spec.number f at q) size ne s; same = same_sided u q v first second p; there = there_again u q v }

-- ---- angles

abbrev tenths : ℤ → ℕ
tenths raw = unsigned_abs (count unit.degrees raw) % 3600

abbrev pub back_angle : Option ℤ → Option ℤ
back_angle None = None
back_angle (Some raw) = Some (pos (read_size spec.angle unit.degrees (tenths raw)))

whole_circle : nearest (3600 * 3141592653589793) 180000000000000 ≤ 62832
unfolding nearest
whole_circle = omega arith

tenths_within : (t : ℕ) → t < 3600 → read_size spec.angle unit.degrees t ≤ 62832
tenths_within t h = omega (arith, whole_circle, nearest_mono (t * 3141592653589793) (3600 * 3141592653589793) 180000000000000 (omega arith) (omega arith))

reads_angle : (h : Option ℤ) → ReadsAs spec.angle (text_of (Angle h)) (back_angle h)
reads_angle None = reads_nothing spec.angle
reads_angle (Some raw) = reads_digits spec.angle unit.degrees false (tenths raw) (paired unit.degrees spec.angle refl) refl refl (omega arith) (tenths_within (tenths raw) (omega arith))

pub same_angle : (h : Option ℤ) → text_of (Angle (back_angle h)) ≡ text_of (Angle h)
same_angle None = refl
same_angle (Some raw) =
    let t = tenths raw in
    let e : printed unit.degrees (read_size spec.angle unit.degrees t) ≡ t = printed_read unit.degrees spec.angle t (paired unit.degrees spec.angle refl) (omega arith) in
    ap (λ (n : ℕ). decimal_text false (n % 3600) 1) e ∙ ap (λ (n : ℕ). decimal_text false n 1) (let h : t % 3600 ≡ t = omega arith in h)

angle_there : (h : Option ℤ) → is_some (back_angle h) ≡ is_some h
angle_there h = grind arith

pub angle_of : (f : Fields) (at : ℕ) (h : Option ℤ) → spec.field_at f at ≡ Some (text_of (Angle h)) → spec.number f at spec.angle ≡ Ok (back_angle h)
angle_of f at h e = number_of f at spec.angle (text_of (Angle h)) (back_angle h) e (reads_angle h)

pub angle_back : (f : Fields) (at : ℕ) (h : Option ℤ) → spec.field_at f at ≡ Some (text_of (Angle h)) → Back (spec.number f at spec.angle) (λ x. Angle x ∷ []) h
angle_back f at h e = record { value = back_angle h; is = angle_of f at h e; same = ap (λ (t : List ℕ). t ∷ []) (same_angle h); there = angle_there h }

pub angle_measured : (f : Fields) (at letter : ℕ) (h : Option ℤ) → spec.field_at f at ≡ Some (text_of (Angle h)) → spec.field_at f (at + 1) ≡ Some (letter ∷ [])
    → Back (spec.measure f at spec.angle letter) (λ x. Angle x ∷ []) h
angle_measured f at letter h e l =
    let n = angle_back f at h e in
    record { value = n.value; is = measure_of f at spec.angle letter n.value n.is l; same = n.same; there = n.there }

-- ---- blank fields

blank_at : (f : Fields) (at : ℕ) (bytes : List ℕ) → spec.field_at f at ≡ Some bytes → spec.is_blank f at ≡ spec.is_nothing bytes
unfolding spec.is_blank spec.text
blank_at f at bytes e = rw e refl

nothing_not : (bytes : List ℕ) → 0 < length bytes → spec.is_nothing bytes ≡ false
nothing_not bytes h = grind arith

pub blank_none : (f : Fields) (at : ℕ) → spec.field_at f at ≡ Some [] → spec.is_blank f at ≡ true
blank_none f at e = blank_at f at [] e

pub blank_some : (f : Fields) (at : ℕ) (bytes : List ℕ) → spec.field_at f at ≡ Some bytes → 0 < length bytes → spec.is_blank f at ≡ false
blank_some f at bytes e h = blank_at f at bytes e ∙ nothing_not bytes h

pub blank_angle : (f : Fields) (at : ℕ) (h : Option ℤ) → spec.field_at f at ≡ Some (text_of (Angle h)) → spec.is_blank f at ≡ is_none h
blank_angle f at None e = blank_none f at e
blank_angle f at (Some raw) e = blank_some f at (text_of (Angle (Some raw))) e (simp length-append (omega arith))

-- ---- the wind's speed

knots_at : (f : Fields) (at : ℕ) (beside_nothing : Bool) → spec.field_at f at ≡ Some (78 ∷ []) → spec.speed_unit f at beside_nothing ≡ Ok spec.knots
unfolding spec.speed_unit
knots_at f at beside_nothing e = rw e refl

pub wind_of : (f : Fields) (at : ℕ) (bytes : List ℕ) (v : Option ℤ) → spec.field_at f at ≡ Some bytes → ReadsAs spec.knots bytes v → spec.field_at f (at + 1) ≡ Some (78 ∷ [])
    → spec.wind_speed f at ≡ Ok v
unfolding spec.wind_speed spec.decimal
wind_of f at bytes v e h u =
    let knots : (b : Bool) → spec.speed_unit f (at + 1) b ≡ Ok spec.knots = λ b. knots_at f (at + 1) b u in
    rw e (simp knots (h at))

-- ---- digits

abbrev AreDigits : List ℕ → Type 0
AreDigits ds = list_all is_ascii_digit ds ≡ true

digits_joined : (xs ys : List ℕ) → AreDigits xs → AreDigits ys → AreDigits (xs ++ ys)
digits_joined xs ys p q = list_all-append is_ascii_digit xs ys ∙ (rw (p, q) refl)

one_digit : (m : ℕ) → m < 10 → AreDigits ((48 + m) ∷ [])
one_digit m h = grind arith

pub digits_decimals : (k n : ℕ) → AreDigits (decimals k n)
digits_decimals zero n = refl
digits_decimals (suc k) n = digits_joined (decimals k (n / 10)) ((48 + n % 10) ∷ []) (digits_decimals k (n / 10)) (one_digit (n % 10) (omega arith))

number_push : (n : ℕ) (ds : List ℕ) (d : ℕ) → number_after n (ds ++ (48 + d) ∷ []) ≡ number_after n ds * 10 + d
number_push n ds d = number_after_append n ds ((48 + d) ∷ []) ∙ omega arith

pub number_decimals : (k n : ℕ) → n < 10 ^ k → number (decimals k n) ≡ n
number_decimals zero n below = omega arith
number_decimals (suc k) n below =
    let power : 10 ^ suc k ≡ 10 * 10 ^ k = pow-succ' 10 k in
    let rest = number_decimals k (n / 10) (omega (arith, power)) in
    number_push 0 (decimals k (n / 10)) (n % 10) ∙ omega (arith, rest)

-- two more digits
two_more : (m n : ℕ) → n < 100 → number_after m (decimals 2 n) ≡ m * 100 + n
two_more m n below =
    number_push m (decimals 1 (n / 10)) (n % 10) ∙ ap (λ (x : ℕ). x * 10 + n % 10) (number_push m [] (n / 10 % 10)) ∙ omega arith

pub two_behind : (ds : List ℕ) (n : ℕ) → n < 100 → number (ds ++ decimals 2 n) ≡ number ds * 100 + n
two_behind ds n below = number_after_append 0 ds (decimals 2 n) ∙ two_more (number ds) n below

-- ---- a fixed number of digits, a point and more digits

abbrev fixed_by : ℕ → ℕ → ℕ → Option Fixed
fixed_by whole part places = Some (record { whole = whole; part = part; places = places })

part_text : (most : ℕ) (ds : List ℕ) → AreDigits ds → length ds ≤ most → spec.part_behind most (46 ∷ ds) ≡ Some ds
part_text most ds h few = grind (arith, nat_tests)

pub fixed_text : (width most : ℕ) (whole part : List ℕ) → AreDigits whole → length whole ≡ width → AreDigits part → length part ≤ most
    → spec.fixed_in width most (whole ++ 46 ∷ part) ≡ fixed_by (number whole) (number part) (length part)
unfolding spec.fixed_in
fixed_text width most whole part w len p few =
    let long : nat_le width (length (whole ++ 46 ∷ part)) ≡ true = le-leb width (length (whole ++ 46 ∷ part)) (omega (arith, length-append whole (46 ∷ part), len)) in
    let front : take width (whole ++ 46 ∷ part) ≡ whole = take_at whole (46 ∷ part) width len in
    let behind : drop width (whole ++ 46 ∷ part) ≡ 46 ∷ part = drop_at whole (46 ∷ part) width len in
    let more : spec.part_behind most (46 ∷ part) ≡ Some part = part_text most part p few in
    rw (long, front, behind, w, more) refl

-- ---- positions

degrees_some : (at : ℕ) (q : ReadUnit) (width : ℕ) (bytes : List ℕ) → 0 < length bytes → spec.degrees_of at q width bytes ≡ spec.degrees_in at q (spec.fixed_in width 9 bytes)
degrees_some at q width bytes h = grind arith

whole_minutes : (m : ℕ) → (m / 600000 * 60 + m % 600000 / 10000) * 10000 + m % 10000 ≡ m
whole_minutes m = omega arith

-- what is read of a count of ten-thousandths of a minute
degrees_read : (at width m : ℕ) (q : ReadUnit) → m / 600000 < 10 ^ width
    → spec.degrees_of at q (width + 2) (degrees_text width m) ≡ spec.scaled at q (Some (record { negative = false; digits = m; places = 4 }))
degrees_read at width m q below =
    let a = m / 600000 in
    let b = m % 600000 / 10000 in
    let sixty : b < 60 = omega arith in
    let whole = decimals width a ++ decimals 2 b in
    let part = decimals 4 (m % 10000) in
    let len : length whole ≡ width + 2 = omega (arith, length-append (decimals width a) (decimals 2 b), length-decimals width a, length-decimals 2 b) in
    let long : 0 < length (whole ++ 46 ∷ part) = omega (arith, length-append whole (46 ∷ part), len) in
    let w : number whole ≡ a * 100 + b = two_behind (decimals width a) b (omega arith) ∙ ap (λ (n : ℕ). n * 100 + b) (number_decimals width a below) in
    let p : number part ≡ m % 10000 = number_decimals 4 (m % 10000) (omega arith) in
    let four = length-decimals 4 (m % 10000) in
    let is : spec.fixed_in (width + 2) 9 (whole ++ 46 ∷ part) ≡ fixed_by (number whole) (number part) (length part) =
    fixed_text (width + 2) 9 whole part (digits_joined (decimals width a) (decimals 2 b) (digits_decimals width a) (digits_decimals 2 b)) len (digits_decimals 4 (m % 10000)) (omega (arith, four)) in
    degrees_some at q (width + 2) (whole ++ 46 ∷ part) long ∙ rw (is, w, p, four) (in_range at q a b (m % 10000) m sixty (whole_minutes m))
  where
    in_range : (at : ℕ) (q : ReadUnit) (a b part m : ℕ) → b < 60 → (a * 60 + b) * 10000 + part ≡ m
        → spec.degrees_in at q (fixed_by (a * 100 + b) part 4) ≡ spec.scaled at q (Some (record { negative = false; digits = m; places = 4 }))
    in_range at q a b part m small e =
        let rest : (a * 100 + b) % 100 ≡ b = omega arith in
        let deg : (a * 100 + b) / 100 ≡ a = omega arith in
        rw (rest, deg, lt-leb 60 b small, e) refl

degrees_of_raw : (f : Fields) (at width : ℕ) (q : ReadUnit) (u : WrittenUnit) (raw : Option ℤ) → Paired u q → Admits (ranges.either_side q.most) raw → u.places ≡ 4
    → printed u q.most / 600000 < 10 ^ width → spec.field_at f at ≡ Some (text_of (Degrees raw u width)) → spec.degrees f at q (width + 2) ≡ Ok (size_of q u raw)
unfolding spec.degrees
degrees_of_raw f at width q u None p held four ends e = rw e refl
degrees_of_raw f at width q u (Some raw) p held four ends e =
    let m = unsigned_abs (count u raw) in
    let le = no_more_either q.most raw held in
    let most : printed u (unsigned_abs raw) ≤ printed u q.most =
    nearest_mono (unsigned_abs raw * u.num) (q.most * u.num) u.den p.den (mul-le (unsigned_abs raw) u.num q.most u.num le (omega arith)) in
    let places : spec.scaled at q (Some (record { negative = false; digits = m; places = 4 })) ≡ Ok (size_of q u (Some raw)) =
    ap (λ (k : ℕ). spec.scaled at q (Some (record { negative = false; digits = m; places = k }))) (sym four) ∙ scales q u false m at p.by (size_again u q raw p le) in
    rw e (degrees_read at width m q (omega (arith, count_size u raw, most, ends)) ∙ places)

pub coordinate_back : (f : Fields) (at width : ℕ) (q : ReadUnit) (u : WrittenUnit) (v : Option ℤ) (first second : ℕ) → IsTrue (is_paired u q) → Admits (ranges.either_side q.most) v → u.places ≡ 4
    → quotient (q.most * u.num) u.den / 600000 < 10 ^ width → (first == second) ≡ false
    → spec.field_at f at ≡ Some (text_of (Degrees v u width)) → spec.field_at f (at + 1) ≡ Some (text_of (Side v u first second))
    → Back (spec.coordinate f at q (width + 2) first second) (λ x. Degrees x u width ∷ Side x u first second ∷ []) v
unfolding spec.coordinate
coordinate_back f at width q u v first second pair held four ends ne e s =
    let p = paired u q pair in
    let below = rw (nearest_quotient (q.most * u.num) u.den) at ends in
    let size = degrees_of_raw f at width q u v p held four below e in
    record {
      value = back q u v;
      is = toward_of f (at + 1) q u v first second (spec.degrees f at q (width + 2)) size ne s;
      same = same_coordinate u q v width first second p;
      there = there_again u q v;
    }

-- ---- time of day

abbrev back_time : Option ℤ → Option ℤ
back_time None = None
back_time (Some raw) = Some (pos (unsigned_abs raw / 100 * 100))

time_some : (at : ℕ) (bytes : List ℕ) → 0 < length bytes → spec.time_of at bytes ≡ spec.time_in at (spec.fixed_in 6 4 bytes)
time_some at bytes h = grind arith

abbrev said_time : ℕ → Result (Option ℤ) FieldFault
said_time n = Ok (Some (pos n))

in_day : (at h m s c : ℕ) → h < 24 → m < 60 → s < 60 → c < 100
    → spec.time_in at (fixed_by ((h * 100 + m) * 100 + s) c 2) ≡ Ok (Some (pos (((h * 60 + m) * 60 + s) * 10000 + c * 100)))
in_day at h m s c hours minutes seconds few =
    let x = (h * 100 + m) * 100 + s in
    let a : x / 10000 ≡ h = omega arith in
    let b : x / 100 % 100 ≡ m = omega arith in
    let d : x % 100 ≡ s = omega arith in
    let e : nat_lt h 24 ≡ true = lt-ltb h 24 hours in
    let g : nat_lt m 60 ≡ true = lt-ltb m 60 minutes in
    let i : nat_lt s 60 ≡ true = lt-ltb s 60 seconds in
    rw (a, b, d, e, g, i) (ap (λ (n : ℕ). said_time n) (omega arith))

seconds_of : (n : ℕ) → (n / 360000 * 60 + n / 6000 % 60) * 60 + n / 100 % 60 ≡ n / 100
seconds_of n = omega arith

hundredths : (n : ℕ) → ((n / 360000 * 60 + n / 6000 % 60) * 60 + n / 100 % 60) * 10000 + n % 100 * 100 ≡ n * 100
hundredths n = let s = seconds_of n in omega arith

time_read : (at raw : ℕ) → raw ≤ 863999999 → spec.time_of at (time_text raw) ≡ said_time (raw / 100 * 100)
time_read at raw le =
    let n = raw / 100 in
    let h = n / 360000 in
    let m = n / 6000 % 60 in
    let s = n / 100 % 60 in
    let c = n % 100 in
    let front = decimals 2 h ++ decimals 2 m in
    let whole = front ++ decimals 2 s in
    let part = decimals 2 c in
    let hours : h < 24 = omega arith in
    let len : length whole ≡ 6 =
    omega (arith, length-append front (decimals 2 s), length-append (decimals 2 h) (decimals 2 m), length-decimals 2 h, length-decimals 2 m, length-decimals 2 s) in
    let two = length-decimals 2 c in
    let long : 0 < length (whole ++ 46 ∷ part) = omega (arith, length-append whole (46 ∷ part), len) in
    let w : number whole ≡ (h * 100 + m) * 100 + s =
    two_behind front s (omega arith) ∙ ap (λ (x : ℕ). x * 100 + s) (two_behind (decimals 2 h) m (omega arith) ∙ ap (λ (x : ℕ). x * 100 + m) (number_decimals 2 h (omega arith))) in
    let p : number part ≡ c = number_decimals 2 c (omega arith) in
    let all : AreDigits whole = digits_joined front (decimals 2 s) (digits_joined (decimals 2 h) (decimals 2 m) (digits_decimals 2 h) (digits_decimals 2 m)) (digits_decimals 2 s) in
    let is : spec.fixed_in 6 4 (whole ++ 46 ∷ part) ≡ fixed_by (number whole) (number part) (length part) = fixed_text 6 4 whole part all len (digits_decimals 2 c) (omega (arith, two)) in
    let parts : fixed_by (number whole) (number part) (length part) ≡ fixed_by ((h * 100 + m) * 100 + s) c 2 = cc in
    time_some at (whole ++ 46 ∷ part) long ∙ ap (spec.time_in at) (is ∙ parts) ∙ in_day at h m s c hours (omega arith) (omega arith) (omega arith) ∙ ap said_time (hundredths n)

pub time_back : (f : Fields) (at : ℕ) (v : Option ℤ) → Admits ranges.time v → spec.field_at f at ≡ Some (text_of (Time v)) → Back (spec.time f at) (λ x. Time x ∷ []) v
unfolding spec.time
time_back f at None held e = record { value = None; is = rw e refl; same = refl; there = refl }
time_back f at (Some raw) held e =
    let n = unsigned_abs raw in
    let again : n / 100 * 100 / 100 ≡ n / 100 = omega arith in
    record {
      value = back_time (Some raw);
      is = rw e (time_read at n (omega (arith, ints, held.0, held.1)));
      same = rw again refl;
      there = refl;
    }

-- ---- whole numbers

abbrev said_number : ℕ → Result ℕ FieldFault
said_number n = Ok n

pub digits_of : (f : Fields) (at : ℕ) (may_lack : Bool) (least most : ℕ) (bytes : List ℕ) → spec.field_at f at ≡ Some bytes → 0 < length bytes → least ≤ length bytes → length bytes ≤ most
    → AreDigits bytes → spec.digits f at may_lack least most ≡ Ok (number bytes)
unfolding spec.digits
digits_of f at may_lack least most bytes e some low high h = rw e (grind (arith, nat_tests))

pub no_digits : (f : Fields) (at least most : ℕ) → spec.field_at f at ≡ Some [] → spec.digits f at true least most ≡ Ok 0
unfolding spec.digits
no_digits f at least most e = rw e refl

-- the number of satellites, and the method of a fix
abbrev satellites_text : ℕ → List ℕ
satellites_text n = if nat_lt n 10 then decimals 2 n else decimal n

record Counted (n : ℕ) (bytes : List ℕ) : Type 0 where
  some : 0 < length bytes
  few : length bytes ≤ 3
  are_digits : AreDigits bytes
  value : number bytes ≡ n

counted_text : (n : ℕ) (b : Bool) → n < 1000 → nat_lt n 10 ≡ b → Counted n (if b then decimals 2 n else decimal n)
counted_text n true few e =
    let two = length-decimals 2 n in
    let small : n < 10 = ltb-true n 10 e in
    record { some = omega (arith, two); few = omega (arith, two); are_digits = digits_decimals 2 n; value = number_decimals 2 n (omega arith) }
counted_text n false few e =
    record {
      some = decimal_nonempty n (omega arith);
      few = length-decimal-le 3 n (omega arith) (omega arith) (omega arith);
      are_digits = list_all_digits (decimal n) ∙ digits_decimal own n (omega arith);
      value = digits_value-decimal own n (omega arith);
    }

satellites_of : (f : Fields) (at : ℕ) (n : ℕ) → n ≤ 252 → spec.field_at f at ≡ Some (satellites_text n) → spec.satellites f at ≡ Ok (Some (pos n))
unfolding spec.satellites
satellites_of f at n le e =
    let t : Counted n (satellites_text n) = counted_text n (nat_lt n 10) (omega arith) refl in
    let blank = blank_some f at (satellites_text n) e t.some in
    let fits : nat_le n 252 ≡ true = le-leb n 252 le in
    let digits : spec.digits f at true 1 3 ≡ Ok n = digits_of f at true 1 3 (satellites_text n) e t.some t.some t.few t.are_digits ∙ ap said_number t.value in
    rw (digits, blank, fits) refl

no_satellites : (f : Fields) (at : ℕ) → spec.field_at f at ≡ Some [] → spec.satellites f at ≡ Ok None
unfolding spec.satellites
no_satellites f at e = rw (no_digits f at 1 3 e, blank_none f at e) refl

pub satellites_back : (f : Fields) (at : ℕ) (v : Option ℤ) → Admits ranges.satellites v → spec.field_at f at ≡ Some (text_of (Satellites v)) → Back (spec.satellites f at) (λ x. Satellites x ∷ []) v
satellites_back f at None held e = record { value = None; is = no_satellites f at e; same = refl; there = refl }
satellites_back f at (Some raw) held e =
    record { value = Some (pos (unsigned_abs raw)); is = satellites_of f at (unsigned_abs raw) (omega (arith, ints, held.0, held.1)) e; same = refl; there = refl }

pub quality_of : (f : Fields) (at m : ℕ) → m ≤ 8 → spec.field_at f at ≡ Some ((48 + m) ∷ []) → spec.quality f at ≡ Ok m
unfolding spec.quality
quality_of f at m le e =
    let value : number ((48 + m) ∷ []) ≡ m = omega arith in
    let fits : nat_le m 8 ≡ true = le-leb m 8 le in
    let digits : spec.digits f at true 1 1 ≡ Ok m =
    digits_of f at true 1 1 ((48 + m) ∷ []) e (omega arith) (omega arith) (omega arith) (one_digit m (omega arith)) ∙ ap said_number value in
    rw (digits, fits) refl

read_digits : (f : Fields) (at : ℕ) (may_lack : Bool) (least width n : ℕ) → 0 < width → least ≤ width → n < 10 ^ width → spec.field_at f at ≡ Some (text_of (Digits (Some n) width))
    → spec.digits f at may_lack least width ≡ Ok n
read_digits f at may_lack least width n some low small e =
    let len = length-decimals width n in
    digits_of f at may_lack least width (decimals width n) e (omega (arith, len)) (omega (arith, len)) (omega (arith, len)) (digits_decimals width n) ∙ ap said_number (number_decimals width n small)

-- ---- the calendar before the year 0

month_bounds_if : (february leap short : Bool) → IsInRange 28 31 (if february then (if leap then 29 else 28) else (if short then 30 else 31))
month_bounds_if true true short = (omega arith, omega arith)
month_bounds_if true false short = (omega arith, omega arith)
month_bounds_if false leap true = (omega arith, omega arith)
month_bounds_if false leap false = (omega arith, omega arith)

pub month_bounds : (y : ℤ) (m : ℕ) → IsInRange 28 31 (days_in_month y m)
month_bounds y m = month_bounds_if (m == 2) (is_leap_year y) ((m == 4) || (m == 6) || (m == 9) || (m == 11))

-- 1 January of the year 0
first_day : Date
first_day = record {
  year = pos 0;
  month = 1;
  day = 1;
  year_in = (omega (arith, ints), omega (arith, ints));
  month_in = (omega arith, omega arith);
  day_in = let b = month_bounds (pos 0) 1 in (omega arith, omega (arith, b.0));
}

fewer_days : day_count (pos 0) 1 1 < day_count (pos 1970) 1 1
unfolding day_count
fewer_days =
    let room = years_least 0 1970 in
    let none = no_months (pos 0) in
    let none_too = no_months (pos 1970) in
    omega (arith, room, none, none_too)

before_zero : epoch_day first_day <ℤ pos 0
unfolding days_from_civil first_day
before_zero = let e = fewer_days in omega (arith, ints, e)

-- a day from 1970-01-01 on has no year before the first
not_before : (d : Date) → pos 0 ≤ℤ epoch_day d → pos 0 ≤ℤ d.year
unfolding first_day
not_before d after = by_lt_z d.year (pos 0) (λ lt. let e = epoch_day-lt d first_day (inl lt) in absurd (omega (arith, ints, e, before_zero))) (λ ge. omega (arith, ints, ge))

-- ---- the three fields

pub date_said : (f : Fields) (at : ℕ) (d : Date) (day : ℤ) → epoch_day d ≡ day → Holds date_range day
    → spec.field_at f at ≡ Some (text_of (Digits (Some d.day) 2)) → spec.field_at f (at + 1) ≡ Some (text_of (Digits (Some d.month) 2))
    → spec.field_at f (at + 2) ≡ Some (text_of (Digits (Some (unsigned_abs d.year)) 4)) → spec.date f at ≡ Ok (Some day)
unfolding spec.date spec.are_blank
date_said f at d day on within e1 e2 e3 =
    let blank : spec.is_blank f at ≡ false = blank_some f at (text_of (Digits (Some d.day) 2)) e1 (omega (arith, length-decimals 2 d.day)) in
    let b = month_bounds d.year d.month in
    let after : pos 0 ≤ℤ epoch_day d = omega (arith, ints, within.0, on) in
    let year : d.year ≡ pos (unsigned_abs d.year) = let y = not_before d after in omega (arith, ints, y) in
    let in_year = d.year_in in
    let r1 = read_digits f at false 1 2 d.day (omega arith) (omega arith) (omega (arith, d.day_in.1, b.1)) e1 in
    let r2 = read_digits f (at + 1) false 1 2 d.month (omega arith) (omega arith) (omega (arith, d.month_in.1)) e2 in
    let r3 = read_digits f (at + 2) false 4 4 (unsigned_abs d.year) (omega arith) (omega arith) (omega (arith, ints, in_year.0, in_year.1)) e3 in
    rw (blank, r1, r2, r3) (ap (spec.day_in at) (dated (unsigned_abs d.year) d.month d.day d (year, refl, refl) ∙ ap spec.day_within on ∙ sym (inside day within)))

pub no_date_said : (f : Fields) (at : ℕ) → spec.field_at f at ≡ Some [] → spec.field_at f (at + 1) ≡ Some [] → spec.field_at f (at + 2) ≡ Some [] → spec.date f at ≡ Ok None
unfolding spec.date spec.are_blank
no_date_said f at e1 e2 e3 =
    rw (blank_none f at e1, blank_none f (at + 1) e2, blank_none f (at + 2) e3, no_digits f at 1 2 e1, no_digits f (at + 1) 1 2 e2, no_digits f (at + 2) 4 4 e3) refl
