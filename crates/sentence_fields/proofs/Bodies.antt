-- The bytes of a field and of a body, and the room that they take.
use Rattle.std.proofs.Common.{All, ◌≡◌, ℕ, zero, suc, ◌+◌, ◌*◌, ◌^◌, ◌<◌, ◌≤◌, ℤ, pos, negsuc, neg_ℤ, ◌*ℤ◌, IsTrue, refl, arith, ◌-◌, ◌/◌, ◌%◌, Bool, true, false, List, Option, length, length-append, sym, ap, ◌∙◌, [], ◌∷◌, ◌++◌, map, take, drop, get_or, append_assoc}
use Rattle.std.specs.Prelude.{unsigned_abs, Some, None, nat_lt, if◌then◌else◌, ◌==◌}
use Rattle.std.proofs.Math.Nat.{div-lt_iff_lt-mul, pow-le-pow_right, div-le_self, one-le-pow}
use Rattle.std.proofs.lemmas.Bool.Decides.{nat_tests}
use Rattle.std.proofs.lemmas.Int.{unsigned_abs-mul}
use Rattle.std.proofs.lemmas.Nat.{mul-le, pow-add}
use Rattle.unit_fraction.specs.Round.{nearest, round}
use Rattle.sentence_fields.specs.declared.written_unit.WrittenUnit.{WrittenUnit}
use Rattle.sentence_fields.specs.Field.{count, is_sound, IsPrintable, is_negative, text_of, width_of, body_text, body_width, degrees_text, time_text, degrees, sentence_by}
use Rattle.std.specs.Fmt.{decimal}
use Rattle.std.proofs.lemmas.Fmt.{decimal_digit, decimal_step, length-decimal-le, digits_decimal}
use Rattle.unit_fraction.specs.Digits.{minus, spelling}
use Rattle.unit_fraction.specs.Text.{behind_point, decimal_text, decimals, shows_minus}
use Rattle.sentence_fields.specs.declared.field.Field.{Field}
use Rattle.sentence_fields.specs.declared.field.Field.TheVariants.{Empty, Letter, Word, Decimal, Magnitude, Side, Angle, Degrees, Time, Digits, Satellites}
use Rattle.std.specs.Char.{is_ascii_digit}
use Rattle.std.specs.List.{AllByRecursion, list_all, position_or_len}
use Rattle.std.specs.Str.{all_ascii_digits}
use Rattle.std.proofs.Math.Seq.{drop-cons}
use Rattle.std.proofs.lemmas.List.Concat.{flat_map-cons}
use Rattle.std.proofs.lemmas.List.Elements.{All-nil, All-cons}
use Rattle.std.proofs.lemmas.List.Folds.{list_all-append}
use Rattle.readings.proofs.Ranges.{by_place}
use Rattle.sentence_text.specs.Byte.{is_address_byte, is_capital, is_field_byte}
use Rattle.sentence_text.specs.Fields.{field_at_front, fields_of}
use Rattle.sentence_text.specs.Sentence.{body_of}
use Rattle.sentence_text.proofs.Fields.{fields_before_comma}
use Rattle.sentence_text.proofs.Spelling.{read_back}
use Rattle.unit_fraction.proofs.Text.{length-decimals, own}
use Rattle.sentence_fields.specs.ReadBack.{IsReadBack, parts_by}

-- what a sound conversion says of its numbers
pub record Sound (unit : WrittenUnit) : Type 0 where
  pub den : 0 < unit.den
  pub places : unit.places < unit.digits
  pub digits : unit.digits ≤ 12
  pub room : 2 * (unit.largest * unit.num) + unit.den < 2 * unit.den * 10 ^ unit.digits

pub sound : (unit : WrittenUnit) → IsTrue (is_sound unit) → Sound unit
sound unit h = record { den = grind (arith, nat_tests); places = grind (arith, nat_tests); digits = grind (arith, nat_tests); room = grind (arith, nat_tests) }

pub abs-neg : (q : ℕ) → unsigned_abs (neg_ℤ (pos q)) ≡ q
abs-neg zero = refl
abs-neg (suc q) = refl

pub abs-round : (n : ℤ) (d : ℕ) → unsigned_abs (round n d) ≡ nearest (unsigned_abs n) d
abs-round (pos n) d = refl
abs-round (negsuc n) d = abs-neg (nearest (suc n) d)

nearest_below : (n d k : ℕ) → 0 < d → 2 * n + d < k * (2 * d) → nearest n d < k
unfolding nearest
nearest_below n d k some room =
    let positive : 0 < 2 * d = omega arith in
    (div-lt_iff_lt-mul {k = 2 * d} {x = 2 * n + d} {y = k} positive).1 room

pub count_below : (unit : WrittenUnit) (raw : ℤ) → IsTrue (is_sound unit) → unsigned_abs raw ≤ unit.largest
    → unsigned_abs (count unit raw) < 10 ^ unit.digits
count_below unit raw is within =
    let s = sound unit is in
    let size : unsigned_abs (count unit raw) ≡ nearest (unsigned_abs (raw *ℤ pos unit.num)) unit.den = abs-round (raw *ℤ pos unit.num) unit.den in
    let product : unsigned_abs (raw *ℤ pos unit.num) ≡ unsigned_abs raw * unit.num = unsigned_abs-mul raw (pos unit.num) in
    let most : unsigned_abs raw * unit.num ≤ unit.largest * unit.num = mul-le (unsigned_abs raw) unit.num unit.largest unit.num within (omega arith) in
    let room : 2 * unsigned_abs (raw *ℤ pos unit.num) + unit.den < 10 ^ unit.digits * (2 * unit.den) = omega (arith, s.room, product, most) in
    rw size (nearest_below (unsigned_abs (raw *ℤ pos unit.num)) unit.den (10 ^ unit.digits) s.den room)

-- the count fits a word
pub count_fits : (unit : WrittenUnit) (raw : ℤ) → IsTrue (is_sound unit) → unsigned_abs raw ≤ unit.largest
    → unsigned_abs (count unit raw) < 10 ^ 12
count_fits unit raw is within =
    let s = sound unit is in
    let below = count_below unit raw is within in
    let most : 10 ^ unit.digits ≤ 10 ^ 12 = pow-le-pow_right {n = 10} (omega arith) {i = unit.digits} {j = 12} s.digits in
    omega arith

pub whole_length : (k places n : ℕ) → places < k → n < 10 ^ k → n < 2 ^ 64 → length (decimal (n / 10 ^ places)) ≤ k - places
whole_length k places n few below word =
    let some : 1 ≤ 10 ^ places = one-le-pow places 10 (omega arith) in
    let parts : k - places + places ≡ k = omega arith in
    let product : 10 ^ k ≡ 10 ^ (k - places) * 10 ^ places = ap (λ (e : ℕ). 10 ^ e) (sym parts) ∙ pow-add 10 (k - places) places in
    let small : n / 10 ^ places < 10 ^ (k - places) =
    (div-lt_iff_lt-mul {k = 10 ^ places} {x = n} {y = 10 ^ (k - places)} some).1 (omega (arith, product)) in
    let word_too : n / 10 ^ places < 2 ^ 64 = omega (arith, div-le_self n (10 ^ places)) in
    length-decimal-le (k - places) (n / 10 ^ places) (omega arith) small word_too

pub length_unsigned_text : (k places n : ℕ) → places < k → n < 10 ^ k → n < 2 ^ 64 → length (decimal_text false n places) ≤ k + 1
length_unsigned_text k zero n few below word = let w = whole_length k zero n few below word in simp length-append (omega (arith, w))
length_unsigned_text k (suc places) n few below word =
    let w = whole_length k (suc places) n few below word in
    let p = length-decimals places (n / 10) in
    simp length-append (omega (arith, w, p))

minus_adds : (negative : Bool) (whole : List ℕ) (part : Option (List ℕ)) → length (spelling negative whole part) ≤ length (spelling false whole part) + 1
minus_adds negative whole part = grind arith

pub length_decimal_text : (negative : Bool) (k places n : ℕ) → places < k → n < 10 ^ k → n < 2 ^ 64 → length (decimal_text negative n places) ≤ k + 2
length_decimal_text negative k places n few below word =
    let w = length_unsigned_text k places n few below word in
    let m = minus_adds (shows_minus negative n) (decimal (n / 10 ^ places)) (behind_point places (decimals places n)) in
    omega (arith, w, m)

pub decimal_room : (unit : WrittenUnit) (negative : Bool) (n out : ℕ) → IsTrue (is_sound unit) → n < 10 ^ unit.digits → n < 2 ^ 64
    → out + (unit.digits + 2) ≤ 82 → out + length (decimal_text negative n unit.places) ≤ 82
decimal_room unit negative n out is below word room =
    let w = length_decimal_text negative unit.digits unit.places n ((sound unit is).places) below word in
    omega (arith, w)

pub magnitude_room : (unit : WrittenUnit) (n out : ℕ) → IsTrue (is_sound unit) → n < 10 ^ unit.digits → n < 2 ^ 64
    → out + (unit.digits + 1) ≤ 82 → out + length (decimal_text false n unit.places) ≤ 82
magnitude_room unit n out is below word room =
    let w = length_unsigned_text unit.digits unit.places n ((sound unit is).places) below word in
    omega (arith, w)

-- the tenths of an angle fit a word, whatever the angle is
pub angle_fits : (raw : ℤ) → unsigned_abs raw ≤ 2 ^ 63 → unsigned_abs (count degrees raw) < 2 ^ 64
angle_fits raw within =
    let size = abs-round (raw *ℤ pos degrees.num) degrees.den in
    let product = unsigned_abs-mul raw (pos degrees.num) in
    rw size (nearest_below (unsigned_abs (raw *ℤ pos degrees.num)) degrees.den (2 ^ 64) (omega arith) (omega (arith, product)))

-- ---- digits one by one

pub one_digit : (n : ℕ) → n < 10 → decimal n ≡ (48 + n) ∷ []
one_digit n few = decimal_digit n few

pub two_digits : (n : ℕ) → 10 ≤ n → n < 100 → decimal n ≡ decimals 2 n
two_digits n some few =
    let front : n / 10 % 10 ≡ n / 10 = omega arith in
    decimal_step n some (omega arith) ∙ ap (λ (ds : List ℕ). ds ++ (48 + n % 10) ∷ []) (one_digit (n / 10) (omega arith)) ∙ (rw front refl)

pub three_digits : (n : ℕ) → 100 ≤ n → n < 1000 → decimal n ≡ decimals 3 n
three_digits n some few =
    let front : n / 10 / 10 % 10 ≡ n / 10 / 10 = omega arith in
    decimal_step n (omega arith) (omega arith) ∙ ap (λ (ds : List ℕ). ds ++ (48 + n % 10) ∷ []) (two_digits (n / 10) (omega arith) (omega arith))

-- all digits but the last three, and these
pub thousands : (n : ℕ) → 1000 ≤ n → n < 10 ^ 6 → decimal n ≡ decimal (n / 1000) ++ decimals 3 n
thousands n some few =
    let front : n / 10 / 10 / 10 ≡ n / 1000 = omega arith in
    let shorter : decimal (n / 10 / 10) ≡ decimal (n / 1000) ++ (48 + n / 10 / 10 % 10) ∷ [] = decimal_step (n / 10 / 10) (omega arith) (omega arith) ∙ (rw front refl) in
    let short : decimal (n / 10) ≡ (decimal (n / 1000) ++ (48 + n / 10 / 10 % 10) ∷ []) ++ (48 + n / 10 % 10) ∷ [] =
    decimal_step (n / 10) (omega arith) (omega arith) ∙ ap (λ (ds : List ℕ). ds ++ (48 + n / 10 % 10) ∷ []) shorter in
    decimal_step n (omega arith) (omega arith) ∙ ap (λ (ds : List ℕ). ds ++ (48 + n % 10) ∷ []) short ∙ (simp append_assoc)

pub length_thousands : (n : ℕ) → 1000 ≤ n → n < 10 ^ 6 → length (decimal n) ≡ length (decimal (n / 1000)) + 3
length_thousands n some few = ap length (thousands n some few) ∙ length-append (decimal (n / 1000)) (decimals 3 n)

pub few_digits : (n : ℕ) → n < 1000 → length (decimal n) ≤ 3
few_digits n few = length-decimal-le 3 n (omega arith) (omega arith) (omega arith)

pub two_at_least : (n : ℕ) → 10 ≤ n → n < 100 → length (decimal n) ≡ 2
two_at_least n some few = ap length (two_digits n some few)

pub three_at_least : (n : ℕ) → 100 ≤ n → n < 1000 → length (decimal n) ≡ 3
three_at_least n some few = ap length (three_digits n some few)

pub one_at_least : (n : ℕ) → n < 10 → length (decimal n) ≡ 1
one_at_least n few = ap length (one_digit n few)

pub one_more : (before : List ℕ) (k n : ℕ) → 1 ≤ k → (before ++ decimals (k - 1) (n / 10)) ++ (48 + n % 10) ∷ [] ≡ before ++ decimals k n
one_more before zero n some = absurd (omega arith)
one_more before (suc k) n some =
    let less : suc k - 1 ≡ k = omega arith in
    rw less (simp append_assoc)

-- ---- a sign, digits, a point and decimals

pub tenths_room : (t : ℕ) → length (decimal_text false t 1) ≡ length (decimal (t / 10)) + 2
tenths_room t = length-append (decimal (t / 10)) (46 ∷ decimals 1 t)

pub hundredths_room : (t : ℕ) → length (decimal_text false t 2) ≡ length (decimal (t / 100)) + 3
hundredths_room t = length-append (decimal (t / 100)) (46 ∷ decimals 2 t)

pub angle_room : (t : ℕ) → t < 3600 → length (decimal_text false t 1) ≤ 5
angle_room t small = length_unsigned_text 4 1 t (omega arith) (omega arith) (omega arith)

pub sign_first : (before : List ℕ) (negative : Bool) (n places : ℕ)
    → (before ++ minus (shows_minus negative n)) ++ decimal_text false n places ≡ before ++ decimal_text negative n places
sign_first before negative n places = append_assoc before (minus (shows_minus negative n)) (decimal_text false n places)

pub sign_room : (negative : Bool) (n places : ℕ) → length (decimal_text negative n places) ≡ length (minus (shows_minus negative n)) + length (decimal_text false n places)
sign_room negative n places = length-append (minus (shows_minus negative n)) (decimal_text false n places)

-- ---- the width of a field

length_satellites : (n : ℕ) → n < 1000 → length (if nat_lt n 10 then decimals 2 n else decimal n) ≤ 3
length_satellites n few =
    let d = length-decimal-le 3 n (omega arith) (omega arith) (omega arith) in
    let two = length-decimals 2 n in
    elim (nat_lt n 10) as (λ b. length (if b then decimals 2 n else decimal n) ≤ 3) [ true ↦ omega (arith, two) | false ↦ d ]

pub text_fits : (f : Field) → IsPrintable f → length (text_of f) ≤ width_of f
text_fits Empty h = omega arith
text_fits (Letter c) h = omega arith
text_fits (Word w) h = omega arith
text_fits (Decimal None unit) h = omega arith
text_fits (Decimal (Some raw) unit) h =
    length_decimal_text (is_negative (count unit raw)) unit.digits unit.places (unsigned_abs (count unit raw)) ((sound unit h.0).places) (count_below unit raw h.0 h.1) (omega (arith, count_fits unit raw h.0 h.1))
text_fits (Magnitude None unit) h = omega arith
text_fits (Magnitude (Some raw) unit) h =
    length_unsigned_text unit.digits unit.places (unsigned_abs (count unit raw)) ((sound unit h.0).places) (count_below unit raw h.0 h.1) (omega (arith, count_fits unit raw h.0 h.1))
text_fits (Side None unit p n) h = omega arith
text_fits (Side (Some raw) unit p n) h = omega arith
text_fits (Angle None) h = omega arith
text_fits (Angle (Some raw)) h =
    length_unsigned_text 4 1 (unsigned_abs (count degrees raw) % 3600) (omega arith) (omega arith) (omega arith)
text_fits (Degrees None unit w) h = omega arith
text_fits (Degrees (Some raw) unit w) h =
    let m = unsigned_abs (count unit raw) in
    simp length-append (omega (arith, length-decimals w (m / 600000), length-decimals 2 (m % 600000 / 10000), length-decimals 4 (m % 10000)))
text_fits (Time None) h = omega arith
text_fits (Time (Some raw)) h =
    let n = unsigned_abs raw / 100 in
    simp length-append (omega (arith, length-decimals 2 (n / 360000), length-decimals 2 (n / 6000 % 60), length-decimals 2 (n / 100 % 60), length-decimals 2 (n % 100)))
text_fits (Digits None w) h = omega arith
text_fits (Digits (Some n) w) h = omega (arith, length-decimals w n)
text_fits (Satellites None) h = omega arith
text_fits (Satellites (Some n)) h = length_satellites (unsigned_abs n) h

abbrev pub AreBytes : List ℕ → Type 0
AreBytes bytes = list_all is_field_byte bytes ≡ true

joined : (xs ys : List ℕ) → AreBytes xs → AreBytes ys → AreBytes (xs ++ ys)
joined xs ys p q = list_all-append is_field_byte xs ys ∙ (rw (p, q) refl)

digit_byte : (m : ℕ) → m < 10 → is_field_byte (48 + m) ≡ true
digit_byte m h = grind (arith, nat_tests)

one : (c : ℕ) → is_field_byte c ≡ true → AreBytes (c ∷ [])
one c h = rw h refl

decimals_bytes : (k n : ℕ) → AreBytes (decimals k n)
decimals_bytes zero n = refl
decimals_bytes (suc k) n =
    joined (decimals k (n / 10)) ((48 + n % 10) ∷ []) (decimals_bytes k (n / 10)) (one (48 + n % 10) (digit_byte (n % 10) (omega arith)))

ascii_byte : (c : ℕ) → is_ascii_digit c ≡ true → is_field_byte c ≡ true
ascii_byte c h = grind (arith, nat_tests)

digits_bytes : (ds : List ℕ) → all_ascii_digits ds ≡ true → AreBytes ds
digits_bytes [] h = refl
digits_bytes (d ∷ ds) h = grind (arith, ascii_byte, digits_bytes ds)

decimal_bytes : (n : ℕ) → n < 2 ^ 64 → AreBytes (decimal n)
decimal_bytes n h = digits_bytes (decimal n) (digits_decimal own n h)

minus_bytes : (negative : Bool) (whole : List ℕ) (part : Option (List ℕ)) → AreBytes (spelling false whole part) → AreBytes (spelling negative whole part)
minus_bytes false whole part h = h
minus_bytes true whole part h = joined (45 ∷ []) (spelling false whole part) refl h

behind_bytes : (places : ℕ) (ds : List ℕ) → AreBytes ds → AreBytes (spelling false [] (behind_point places ds))
behind_bytes zero ds h = refl
behind_bytes (suc places) ds h = joined (46 ∷ []) ds refl h

text_bytes : (negative : Bool) (n places : ℕ) → n < 2 ^ 64 → AreBytes (decimal_text negative n places)
text_bytes negative n places h =
    let small : n / 10 ^ places < 2 ^ 64 = omega (arith, div-le_self n (10 ^ places)) in
    let whole = decimal (n / 10 ^ places) in
    minus_bytes (shows_minus negative n) whole (behind_point places (decimals places n))
    (joined whole (spelling false [] (behind_point places (decimals places n))) (decimal_bytes (n / 10 ^ places) small)
    (behind_bytes places (decimals places n) (decimals_bytes places n)))

side_byte : (b : Bool) (p n : ℕ) → is_field_byte p ≡ true → is_field_byte n ≡ true → AreBytes ((if b then n else p) ∷ [])
side_byte b p n hp hn = grind arith

satellites_bytes : (n : ℕ) → n < 1000 → (b : Bool) → AreBytes (if b then decimals 2 n else decimal n)
satellites_bytes n h true = decimals_bytes 2 n
satellites_bytes n h false = decimal_bytes n (omega arith)

degrees_bytes : (w m : ℕ) → AreBytes (degrees_text w m)
degrees_bytes w m = search (joined, decimals_bytes)

time_bytes : (raw : ℕ) → AreBytes (time_text raw)
time_bytes raw = grind (arith, digit_byte)

pub field_bytes : (f : Field) → IsPrintable f → AreBytes (text_of f)
field_bytes Empty h = refl
field_bytes (Letter c) h = one c h
field_bytes (Word w) h = h
field_bytes (Decimal None unit) h = refl
field_bytes (Decimal (Some raw) unit) h =
    text_bytes (is_negative (count unit raw)) (unsigned_abs (count unit raw)) unit.places (omega (arith, count_fits unit raw h.0 h.1))
field_bytes (Magnitude None unit) h = refl
field_bytes (Magnitude (Some raw) unit) h = text_bytes false (unsigned_abs (count unit raw)) unit.places (omega (arith, count_fits unit raw h.0 h.1))
field_bytes (Side None unit p n) h = refl
field_bytes (Side (Some raw) unit p n) h = side_byte (is_negative (count unit raw)) p n h.1 h.2
field_bytes (Angle None) h = refl
field_bytes (Angle (Some raw)) h = text_bytes false (unsigned_abs (count degrees raw) % 3600) 1 (omega arith)
field_bytes (Degrees None unit w) h = refl
field_bytes (Degrees (Some raw) unit w) h = degrees_bytes w (unsigned_abs (count unit raw))
field_bytes (Time None) h = refl
field_bytes (Time (Some raw)) h = time_bytes (unsigned_abs raw)
field_bytes (Digits None w) h = refl
field_bytes (Digits (Some n) w) h = decimals_bytes w n
field_bytes (Satellites None) h = refl
field_bytes (Satellites (Some n)) h = satellites_bytes (unsigned_abs n) h (nat_lt (unsigned_abs n) 10)

length_body : (fields : List Field) → AllByRecursion IsPrintable fields → length (body_text fields) ≤ body_width fields
length_body [] h = omega arith
length_body (f ∷ fs) h = let t = text_fits f h.0 in let r = length_body fs h.1 in simp length-append (omega (arith, t, r))

-- ---- the loop over the fields

-- what is written and what is left make up the body behind what was there, and what is left has room
pub record Left (before body : List ℕ) (fields : List Field) (i : ℕ) : Type 0 where
  pub text : body ++ body_text (drop i fields) ≡ before ++ body_text fields
  pub room : length body + body_width (drop i fields) ≤ 77

pub next : (before body pushed new : List ℕ) (fields : List Field) (i : ℕ) (d : Field) → AllByRecursion IsPrintable fields → i < length fields
    → pushed ≡ body ++ 44 ∷ [] → new ≡ pushed ++ text_of (get_or fields i d) → Left before body fields i → Left before new fields (i + 1)
next before body pushed new fields i d printable inside comma text left =
    let g = get_or fields i d in
    let rest = drop (i + 1) fields in
    let step : suc i ≡ i + 1 = omega arith in
    let cut : drop i fields ≡ g ∷ rest = drop-cons fields i d inside ∙ ap (λ (k : ℕ). g ∷ drop k fields) step in
    let fits = text_fits g (by_place IsPrintable fields printable i d inside) in
    let width : body_width (drop i fields) ≡ 1 + width_of g + body_width rest = ap body_width cut in
    let len : length new ≡ length body + 1 + length (text_of g) = rw (text, comma) (simp length-append (omega arith)) in
    let whole : new ++ body_text rest ≡ body ++ body_text (drop i fields) = rw (text, comma, cut) (simp append_assoc) in
    record { text = whole ∙ left.text; room = omega (arith, fits, width, len, left.room) }

-- ---- a sentence of fields

spelled : (fields : List Field) → body_text fields ≡ body_of (map text_of fields)
spelled [] = refl
spelled (f ∷ fs) = ap (λ (b : List ℕ). (44 ∷ text_of f) ++ b) (spelled fs) ∙ sym (flat_map-cons (λ (field : List ℕ). 44 ∷ field) (text_of f) (map text_of fs))

abbrev IsField : List ℕ → Type 0
IsField field = IsTrue (list_all is_field_byte field)

are_fields : (fields : List Field) → AllByRecursion IsPrintable fields → All IsField (map text_of fields)
are_fields [] h = All-nil IsField
are_fields (f ∷ fs) h = All-cons IsField (text_of f) (map text_of fs) (field_bytes f h.0) (are_fields fs h.1)

capital_is_address : (c : ℕ) → is_capital c ≡ true → is_address_byte c ≡ true
capital_is_address c h = rw h refl

pub capitals_are_address : (cs : List ℕ) → IsTrue (list_all is_capital cs) → IsTrue (list_all is_address_byte cs)
capitals_are_address [] h = refl
capitals_are_address (c ∷ cs) h = grind (arith, capital_is_address, capitals_are_address cs)

-- a body of the least room makes a sentence of at most 82 bytes
pub sentence_fits : (talker formatter : List ℕ) (fields : List Field) → length talker ≡ 2 → length formatter ≡ 3 → AllByRecursion IsPrintable fields
    → body_width fields ≤ 71 → length (sentence_by talker formatter fields) ≤ 82
sentence_fits talker formatter fields two three printable short =
    let b = length_body fields printable in
    simp length-append (omega (arith, b))

-- ---- the fields of a body

take_one_more : (n c : ℕ) (cs : List ℕ) → take (1 + n) (c ∷ cs) ≡ c ∷ take n cs
take_one_more n c cs = grind arith

before_comma : (c : ℕ) (cs : List ℕ) → (c == 44) ≡ false → field_at_front (c ∷ cs) ≡ c ∷ field_at_front cs
before_comma c cs e =
    let len : position_or_len (λ x. x == 44) (c ∷ cs) ≡ 1 + position_or_len (λ x. x == 44) cs = rw e refl in
    ap (λ (n : ℕ). take n (c ∷ cs)) len ∙ take_one_more (position_or_len (λ x. x == 44) cs) c cs

no_comma : (c : ℕ) (cs : List ℕ) → AreBytes (c ∷ cs) → ((c == 44) ≡ false) × AreBytes cs
no_comma c cs h = (grind (arith, nat_tests), grind arith)

front_again : (t rest : List ℕ) → AreBytes t → field_at_front rest ≡ [] → field_at_front (t ++ rest) ≡ t
front_again [] rest h e = e
front_again (c ∷ cs) rest h e =
    let n = no_comma c cs h in
    before_comma c (cs ++ rest) n.0 ∙ ap (λ (x : List ℕ). c ∷ x) (front_again cs rest n.1 e)

fields_behind : (t rest : List ℕ) → AreBytes t → fields_of (t ++ rest) ≡ fields_of rest
fields_behind [] rest h = refl
fields_behind (c ∷ cs) rest h =
    let n = no_comma c cs h in
    fields_before_comma c (cs ++ rest) n.0 ∙ fields_behind cs rest n.1

starts : (fields : List Field) → field_at_front (body_text fields) ≡ []
starts [] = refl
starts (f ∷ fs) = refl

-- the fields of a body are the texts of its fields
pub fields_text : (fields : List Field) → AllByRecursion IsPrintable fields → fields_of (body_text fields) ≡ map text_of fields
fields_text [] h = refl
fields_text (f ∷ fs) h =
    let t = text_of f in
    let b = field_bytes f h.0 in
    ap (λ (x : List ℕ). x ∷ fields_of (t ++ body_text fs)) (front_again t (body_text fs) b (starts fs))
    ∙ ap (λ (x : List (List ℕ)). t ∷ x) (fields_behind t (body_text fs) b ∙ fields_text fs h.1)

pub is_read_back : (talker formatter : List ℕ) (fields : List Field) → length talker ≡ 2 → length formatter ≡ 3 → IsTrue (list_all is_capital talker)
    → IsTrue (list_all is_address_byte formatter) → AllByRecursion IsPrintable fields → body_width fields ≤ 71 → IsReadBack talker formatter fields
is_read_back talker formatter fields two three capital address printable short = record {
  is_sentence = read_back (parts_by talker formatter fields) (record {
    starts = refl;
    two = two;
    three = three;
    talker_bytes = capitals_are_address talker capital;
    formatter_bytes = address;
    body = record { fields = map text_of fields; bytes = are_fields fields printable; spelled = spelled fields };
    short = sentence_fits talker formatter fields two three printable short;
  });
  has_fields = fields_text fields printable;
}
