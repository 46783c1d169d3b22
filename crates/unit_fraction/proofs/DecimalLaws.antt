-- The two laws of reading: what is read is spelled so, and what is spelled so is read.
use Rattle.std.proofs.Common.{◌≡◌, ℕ, zero, suc, ◌+◌, ◌-◌, ◌*◌, ◌/◌, pow-add, ◌^◌, ◌<◌, ◌≤◌, Bool, true, false, cond, ◌||◌, ltb, List, [], ◌∷◌, ◌++◌, length, take, drop, Option, Some, None, Result, Ok, Err, refl, sym, ap, subst, ◌∙◌, length-append, one-add, arith, inl, inr}
use Rattle.std.specs.Prelude.{◌==◌, slice_index}
use Rattle.std.specs.Char.{is_ascii_digit}
use Rattle.std.specs.List.{prefix_len}
use Rattle.std.specs.Str.{all_ascii_digits}
use Rattle.std.proofs.lemmas.Bool.{cases_Bool, eqb-true, ltb-false, le-ltb, or_parts, ne_eqb, and_parts, and_from, eqb-false}
use Rattle.std.proofs.lemmas.List.{append-nil, take_at, drop_at, take-append-drop, nil_from_length}
use Rattle.unit_fraction.specs.declared.decimal.Decimal.{Decimal}
use Rattle.unit_fraction.specs.declared.decimal.DecimalFault.{DecimalFault}
use Rattle.unit_fraction.specs.declared.decimal.DecimalFault.TheVariants.{Empty, Byte, Long}
use Rattle.unit_fraction.specs.Digits.{minus, pointed, spelling}
use Rattle.unit_fraction.specs.Reading.{part_of, IsDecimal, is_negative, unsigned, digits_of, behind_digits, part_at, behind_part, Cut, cut, count_of, decimal_of, read_cut, read}
use Rattle.std.specs.Fmt.{decimal}
use Rattle.std.proofs.lemmas.Fmt.{length-decimal-le, decimal_nonempty}
use Rattle.std.proofs.Math.Nat.{div-lt_iff_lt-mul, one-le-pow, div-le_self}
use Rattle.unit_fraction.specs.Text.{behind_point, decimals, decimal_text}
use Rattle.unit_fraction.specs.Laws.{written}
use Rattle.unit_fraction.proofs.Number.{front_digits, all_digits_append}
use Rattle.unit_fraction.proofs.Text.{writes_all, length-decimals}

-- ---- what is read is spelled so

guard : (b : Bool) (f : DecimalFault) (rest : Result Decimal DecimalFault) (d : Decimal) → cond b (Err f) rest ≡ Ok d → (b ≡ false) × (rest ≡ Ok d)
guard true f rest d e = absurd cc
guard false f rest d e = (refl, e)

abbrev said : Decimal → Result Decimal DecimalFault
said d = Ok d

ok_is : (x y : Decimal) → said x ≡ said y → x ≡ y
ok_is x y e = cc

record Passes (c : Cut) (d : Decimal) : Type 0 where
  nothing_left : length c.left ≡ 0
  some : 0 < count_of c
  few : count_of c ≤ 12
  is : decimal_of c ≡ d

passes : (len : ℕ) (c : Cut) (d : Decimal) → read_cut len c ≡ Ok d → Passes c d
passes len c d e =
    let few = cond (ltb 12 (count_of c)) (Err Long) (said (decimal_of c)) in
    let fits = cond (ltb 0 (length c.left) || (count_of c == 0)) (Err (Byte (len - length c.left))) few in
    let a = guard (len == 0) Empty fits d e in
    let b = guard (ltb 0 (length c.left) || (count_of c == 0)) (Byte (len - length c.left)) few d a.1 in
    let g = guard (ltb 12 (count_of c)) Long (said (decimal_of c)) d b.1 in
    let p = or_parts (ltb 0 (length c.left)) (count_of c == 0) b.0 in
    let more : count_of c ≡ 0 → ⊥ = eqb-false (count_of c) 0 p.1 in
    record {
      nothing_left = omega (arith, ltb-false 0 (length c.left) p.0);
      some = omega (arith, more);
      few = ltb-false 12 (count_of c) g.0;
      is = ok_is (decimal_of c) d g.1;
    }

signed_front : (text : List ℕ) → text ≡ minus (is_negative text) ++ unsigned text
signed_front [] = refl
signed_front (c ∷ cs) = elim (cases_Bool (c == 45)) [
  | inl e ↦ rw (e, eqb-true c 45 e) refl
  | inr e ↦ rw e refl
]

abbrev part_option : List ℕ → Option (List ℕ)
part_option text = cond (slice_index text 0 == 46) (Some (digits_of (drop 1 text))) None

part_of-part_option : (text : List ℕ) → part_of (part_option text) ≡ part_at text
part_of-part_option text = elim (slice_index text 0 == 46) as (λ b. part_of (cond b (Some (digits_of (drop 1 text))) None) ≡ cond b (digits_of (drop 1 text)) []) [ true ↦ refl | false ↦ refl ]

digits_front : (text : List ℕ) → text ≡ digits_of text ++ behind_digits text
digits_front text = sym (take-append-drop (prefix_len is_ascii_digit text) text)

pointed_front : (text : List ℕ) → text ≡ pointed (part_option text) ++ behind_part text
pointed_front [] = refl
pointed_front (c ∷ cs) = elim (cases_Bool (c == 46)) [
  | inl e ↦ rw (e, eqb-true c 46 e) (ap (λ (x : List ℕ). 46 ∷ x) (digits_front cs))
  | inr e ↦ rw e refl
]

part_digits : (text : List ℕ) → all_ascii_digits (part_at text) ≡ true
part_digits text = elim (slice_index text 0 == 46) as (λ b. all_ascii_digits (cond b (digits_of (drop 1 text)) []) ≡ true) [ true ↦ front_digits (drop 1 text) | false ↦ refl ]

pub is_decimal : (text : List ℕ) (d : Decimal) → read text ≡ Ok d → IsDecimal d text
unfolding read
is_decimal text d e =
    let c = cut text in
    let p = passes (length text) c d e in
    let rest = behind_digits (unsigned text) in
    let nothing : behind_part rest ≡ [] = nil_from_length (behind_part rest) p.nothing_left in
    let ends : rest ≡ pointed (part_option rest) = pointed_front rest ∙ ap (λ (x : List ℕ). pointed (part_option rest) ++ x) nothing ∙ append-nil (pointed (part_option rest)) in
    let whole : unsigned text ≡ c.whole ++ pointed (part_option rest) = digits_front (unsigned text) ∙ ap (λ (x : List ℕ). c.whole ++ x) ends in
    let spelled : text ≡ spelling c.negative c.whole (part_option rest) = signed_front text ∙ ap (λ (x : List ℕ). minus c.negative ++ x) whole in
    let part = part_of-part_option rest in
    let made : IsDecimal (decimal_of c) text = record {
      whole = c.whole;
      part = part_option rest;
      spelled = spelled;
      are_digits = rw part (all_digits_append c.whole c.part (front_digits (unsigned text)) (part_digits rest));
      some = rw part (omega (arith, length-append c.whole c.part, p.some));
      few = rw part (omega (arith, length-append c.whole c.part, p.few));
      value = rw part refl;
      places = rw part refl;
    } in
    subst (λ (x : Decimal). IsDecimal x text) p.is made

-- ---- what is spelled so is read

all_parts : (xs ys : List ℕ) → all_ascii_digits (xs ++ ys) ≡ true → (all_ascii_digits xs ≡ true) × (all_ascii_digits ys ≡ true)
all_parts [] ys h = (refl, h)
all_parts (c ∷ cs) ys h =
    let p = and_parts (is_ascii_digit c) (all_ascii_digits (cs ++ ys)) h in
    let q = all_parts cs ys p.1 in
    (and_from (is_ascii_digit c) (all_ascii_digits cs) p.0 q.0, q.1)

-- no digit comes first
abbrev StopsDigits : List ℕ → Type 0
StopsDigits text = prefix_len is_ascii_digit text ≡ 0

pointed_stops : (part : Option (List ℕ)) → StopsDigits (pointed part)
pointed_stops None = refl
pointed_stops (Some part) = refl

run_of : (ds tail : List ℕ) → all_ascii_digits ds ≡ true → StopsDigits tail → prefix_len is_ascii_digit (ds ++ tail) ≡ length ds
run_of [] tail h stops = stops
run_of (c ∷ cs) tail h stops =
    let p = and_parts (is_ascii_digit c) (all_ascii_digits cs) h in
    rw (p.0, run_of cs tail p.1 stops) (one-add (length cs))

digits_again : (ds tail : List ℕ) → all_ascii_digits ds ≡ true → StopsDigits tail → (digits_of (ds ++ tail) ≡ ds) × (behind_digits (ds ++ tail) ≡ tail)
digits_again ds tail h stops =
    let n = run_of ds tail h stops in
    (ap (λ (k : ℕ). take k (ds ++ tail)) n ∙ take_at ds tail (length ds) refl, ap (λ (k : ℕ). drop k (ds ++ tail)) n ∙ drop_at ds tail (length ds) refl)

is_no_minus : (c : ℕ) → is_ascii_digit c ≡ true → (c == 45) ≡ false
is_no_minus c h = grind arith

unsigned_start : (whole : List ℕ) (part : Option (List ℕ)) → all_ascii_digits whole ≡ true → is_negative (whole ++ pointed part) ≡ false
unsigned_start [] None h = refl
unsigned_start [] (Some part) h = refl
unsigned_start (c ∷ cs) part h = is_no_minus c ((and_parts (is_ascii_digit c) (all_ascii_digits cs) h).0)

pub sign_again : (negative : Bool) (whole : List ℕ) (part : Option (List ℕ)) → all_ascii_digits whole ≡ true
    → (is_negative (spelling negative whole part) ≡ negative) × (unsigned (spelling negative whole part) ≡ whole ++ pointed part)
sign_again true whole part h = (refl, refl)
sign_again false whole part h =
    let e = unsigned_start whole part h in
    (e, rw e refl)

part_again : (part : Option (List ℕ)) → all_ascii_digits (part_of part) ≡ true → (part_at (pointed part) ≡ part_of part) × (behind_part (pointed part) ≡ [])
part_again None h = (refl, refl)
part_again (Some part) h =
    let a = digits_again part [] h refl in
    let nil = append-nil part in
    (ap digits_of (sym nil) ∙ a.0, ap behind_digits (sym nil) ∙ a.1)

abbrev made : Bool → List ℕ → List ℕ → Cut
made negative whole rest = record { negative = negative; whole = whole; part = part_at rest; left = behind_part rest }

abbrev whole_cut : Bool → List ℕ → List ℕ → List ℕ → Cut
whole_cut negative whole part left = record { negative = negative; whole = whole; part = part; left = left }

cut_again : (negative : Bool) (whole : List ℕ) (part : Option (List ℕ)) → all_ascii_digits whole ≡ true → all_ascii_digits (part_of part) ≡ true
    → cut (spelling negative whole part) ≡ whole_cut negative whole (part_of part) []
cut_again negative whole part w p =
    let text = spelling negative whole part in
    let s = sign_again negative whole part w in
    let d = digits_again whole (pointed part) w (pointed_stops part) in
    let a = part_again part p in
    ap (λ (u : List ℕ). made (is_negative text) (digits_of u) (behind_digits u)) s.1
    ∙ ap (λ (n : Bool). made n (digits_of (whole ++ pointed part)) (behind_digits (whole ++ pointed part))) s.0
    ∙ ap (λ (ds : List ℕ). made negative ds (behind_digits (whole ++ pointed part))) d.0
    ∙ ap (λ (rest : List ℕ). made negative whole rest) d.1
    ∙ ap (λ (ds : List ℕ). whole_cut negative whole ds (behind_part (pointed part))) a.0
    ∙ ap (λ (left : List ℕ). whole_cut negative whole (part_of part) left) a.1

passes_again : (len : ℕ) (c : Cut) → 0 < len → length c.left ≡ 0 → 0 < count_of c → count_of c ≤ 12 → read_cut len c ≡ Ok (decimal_of c)
passes_again len c some nothing more few =
    let a : (len == 0) ≡ false = ne_eqb len 0 (λ z. omega arith) in
    let b : ltb 0 (length c.left) ≡ false = le-ltb 0 (length c.left) (omega arith) in
    let g : (count_of c == 0) ≡ false = ne_eqb (count_of c) 0 (λ z. omega arith) in
    let l : ltb 12 (count_of c) ≡ false = le-ltb 12 (count_of c) few in
    rw (a, b, g, l) refl

pointed_longer : (part : Option (List ℕ)) → length (part_of part) ≤ length (pointed part)
pointed_longer None = omega arith
pointed_longer (Some part) = omega arith

abbrev said_of : Bool → ℕ → ℕ → Result Decimal DecimalFault
said_of negative digits places = Ok (record { negative = negative; digits = digits; places = places })

pub is_read : (text : List ℕ) (d : Decimal) → IsDecimal d text → read text ≡ Ok d
unfolding read
is_read text d h =
    let part = part_of h.part in
    let digits = all_parts h.whole part h.are_digits in
    let is : cut text ≡ whole_cut d.negative h.whole part [] = ap cut h.spelled ∙ cut_again d.negative h.whole h.part digits.0 digits.1 in
    let count : length (h.whole ++ part) ≡ length h.whole + length part = length-append h.whole part in
    let some : 0 < length text = omega (arith, h.some, count, pointed_longer h.part, ap length h.spelled, length-append (minus d.negative) (h.whole ++ pointed h.part), length-append h.whole (pointed h.part)) in
    let more : 0 < length h.whole + length part = omega (arith, h.some, count) in
    let few : length h.whole + length part ≤ 12 = omega (arith, h.few, count) in
    ap (read_cut (length text)) is
    ∙ passes_again (length text) (whole_cut d.negative h.whole part []) some refl more few
    ∙ ap (λ (n : ℕ). said_of d.negative n (length part)) (sym h.value)
    ∙ ap (λ (n : ℕ). said_of d.negative d.digits n) (sym h.places)

-- ---- what is written is read

part_is : (places : ℕ) (part : List ℕ) → length part ≡ places → part_of (behind_point places part) ≡ part
part_is zero part e = sym (nil_from_length part e)
part_is (suc places) part e = refl

whole_length : (digits places : ℕ) → digits < 10 ^ 12 → places < 12 → length (decimal (digits / 10 ^ places)) + places ≤ 12
whole_length digits places small few =
    let power : 10 ^ (12 - places + places) ≡ 10 ^ (12 - places) * 10 ^ places = pow-add 10 (12 - places) places in
    let all : 12 - places + places ≡ 12 = omega (arith, few) in
    let fits : digits < 10 ^ (12 - places) * 10 ^ places = rw (← power, all) small in
    let below : digits / 10 ^ places < 10 ^ (12 - places) = (div-lt_iff_lt-mul (one-le-pow places 10 (omega arith))).1 fits in
    let short = length-decimal-le (12 - places) (digits / 10 ^ places) (omega arith) below (omega (arith, div-le_self digits (10 ^ places))) in
    omega (arith, short)

pub written_again : (negative : Bool) (digits places : ℕ) → digits < 10 ^ 12 → places < 12
    → read (decimal_text negative digits places) ≡ Ok (written negative digits places)
written_again negative digits places small few =
    let whole = decimal (digits / 10 ^ places) in
    let part = decimals places digits in
    let all = writes_all places digits (omega arith) in
    let exact = length-decimals places digits in
    let is = part_is places part exact in
    let count = length-append whole part in
    is_read (decimal_text negative digits places) (written negative digits places) (record {
      whole = whole;
      part = behind_point places part;
      spelled = refl;
      are_digits = rw is all.are_digits;
      some = rw is (omega (arith, count, decimal_nonempty (digits / 10 ^ places) (omega (arith, div-le_self digits (10 ^ places)))));
      few = rw is (omega (arith, count, exact, whole_length digits places small few));
      value = rw is (sym all.value);
      places = rw is (sym exact);
    })
