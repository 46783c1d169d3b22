-- Hexadecimal digits that are read and written many at once.
use Rattle.std.proofs.Common.{◌≡◌, ℕ, zero, suc, ◌+◌, ◌-◌, ◌*◌, ◌/◌, ◌%◌, ◌<◌, ◌≤◌, Bool, true, false, ◌&&◌, cond, ltb, leb, List, [], ◌∷◌, ◌++◌, length, get_or, set, take, drop, Ok, Some, None, refl, sym, ap, subst, ◌∙◌, length-append, arith, inl, inr}
use Rattle.std.specs.Prelude.{◌||◌, All, map, MatchResult, Result, Err, option_map}
use Rattle.std.specs.Char.{digit_value, is_ascii_hexdigit}
use Rattle.std.specs.Result.{result_ok}
use Rattle.std.specs.Int.{w32, from_be_bytes}
use Rattle.std.specs.List.{list_all, range_with_len}
use Rattle.std.proofs.lemmas.Bool.{and_parts, le-leb, leb-true, or_cases}
use Rattle.std.proofs.lemmas.List.{append_assoc, append-nil, drop_all, length-drop, length-map, length-take, map-append, map_more, take-append-drop, take_all, take_more_set}
use Rattle.std.proofs.lemmas.Slice.{take-put_mid}
use Rattle.std.proofs.Math.Seq.{take-add}
use borrow.Rule.Slice.PartMut.{put_mid}
use Rattle.std.proofs.lemmas.List.FromFn.{get_or-map-range_with_len}
use Rattle.std.proofs.lemmas.List.Elements.{All-nil, All-cons, All-get_or}
use Rattle.std.proofs.lemmas.List.Sums.{AllPass-from_list_all}
use Rattle.hex.specs.Hex.{decode_of, decode_pairs, decode_sized, digit_or_error, encode_upper, encode_with, hex_digit_value, pair_value, upper_digits, value_at}
use Rattle.hex.specs.declared.error.FromHexError.{FromHexError}
use Rattle.hex.proofs.HexLemmas.{decode_of-even, decode_of-ok}
use Rattle.sentence_text.proofs.Bytes.{all_append, all_parts}
use Rattle.hex.proofs.Pairs.{cons_byte, decode_pairs-ok_pair, drop-pair}
use Rattle.capture_text.specs.Hexadecimal.{paired}
use Rattle.capture_text.specs.Reading.{number_of}
use Rattle.capture_text.proofs.Cuts.{put_end}
use Rattle.capture_text.proofs.Data.{written_digits}

-- ---- read

pub digit_at : (digits : List ℕ) (i : ℕ) → i < length digits → list_all is_ascii_hexdigit digits ≡ true → is_ascii_hexdigit (get_or digits i 0) ≡ true
digit_at digits i lt h = All-get_or (λ c. is_ascii_hexdigit c ≡ true) digits i 0 lt (AllPass-from_list_all is_ascii_hexdigit digits h)

pub values_more : (digits room : List ℕ) (i value : ℕ) → i < length digits → i < length room → value ≡ digit_value (get_or digits i 0) → take i room ≡ map digit_value (take i digits)
    → take (i + 1) (set room i value) ≡ map digit_value (take (i + 1) digits)
values_more digits room i value lt fits v e =
    take_more_set room i value fits
    ∙ ap (λ (x : List ℕ). x ++ value ∷ []) e
    ∙ ap (λ (x : ℕ). map digit_value (take i digits) ++ x ∷ []) v
    ∙ sym (map_more digit_value digits i 0 lt)

-- a digit is in one of three ranges
data DigitKind (c : ℕ) : Type 0 where
  decimal : 48 ≤ c → c ≤ 57 → DigitKind c
  capital : 65 ≤ c → c ≤ 70 → DigitKind c
  small_letter : 97 ≤ c → c ≤ 102 → DigitKind c

abbrev within : ℕ → ℕ → ℕ → Bool
within a b c = leb a c && leb c b

in_range : (a b c : ℕ) → within a b c ≡ true → (a ≤ c) × (c ≤ b)
in_range a b c h = let p = and_parts (leb a c) (leb c b) h in (leb-true a c p.0, leb-true c b p.1)

digit_kind : (c : ℕ) → is_ascii_hexdigit c ≡ true → DigitKind c
digit_kind c h = elim (or_cases (within 48 57 c || within 65 70 c) (within 97 102 c) h) [
  | inr e ↦ let r = in_range 97 102 c e in small_letter r.0 r.1
  | inl f ↦
      elim (or_cases (within 48 57 c) (within 65 70 c) f) [
        | inl e ↦ let r = in_range 48 57 c e in decimal r.0 r.1
        | inr e ↦ let r = in_range 65 70 c e in capital r.0 r.1
      ]
]

decimal_value : (c : ℕ) → 48 ≤ c → c ≤ 57 → (digit_value c < 16) × (hex_digit_value c ≡ Some (digit_value c))
decimal_value c low high = (grind arith, grind arith)

capital_value : (c : ℕ) → 65 ≤ c → c ≤ 70 → (digit_value c < 16) × (hex_digit_value c ≡ Some (digit_value c))
capital_value c low high = (grind arith, grind arith)

letter_last : (b : Bool) (c : ℕ) → cond (b && false) (Some (c - 55)) (Some (c - 87)) ≡ Some (c - 87)
letter_last true c = refl
letter_last false c = refl

letter_value : (c : ℕ) → 97 ≤ c → c ≤ 102 → (digit_value c < 16) × (hex_digit_value c ≡ Some (digit_value c))
letter_value c low high = (
  grind arith,
  let past : leb c 70 ≡ false = grind arith in
      let here : leb c 102 ≡ true = le-leb c 102 high in
      let from : leb 97 c ≡ true = le-leb 97 c low in
      let value : digit_value c ≡ c - 87 = grind arith in
      simp (past, here, from, value) (letter_last (leb 65 c) c),
)

-- the value of a digit, as hex has it
value_is : (c : ℕ) → is_ascii_hexdigit c ≡ true → (digit_value c < 16) × (hex_digit_value c ≡ Some (digit_value c))
value_is c h = elim (digit_kind c h) [
  | decimal low high ↦ decimal_value c low high
  | capital low high ↦ capital_value c low high
  | small_letter low high ↦ letter_value c low high
]

values_small : (digits : List ℕ) → list_all is_ascii_hexdigit digits ≡ true → All (λ v. v < 16) (map digit_value digits)
values_small [] h = All-nil (λ v. v < 16)
values_small (c ∷ cs) h =
    let p = and_parts (is_ascii_hexdigit c) (list_all is_ascii_hexdigit cs) h in
    All-cons (λ v. v < 16) (digit_value c) (map digit_value cs) (value_is c p.0).0 (values_small cs p.1)

pub small_values : (digits values : List ℕ) → list_all is_ascii_hexdigit digits ≡ true → values ≡ map digit_value digits → All (λ v. v < 16) values
small_values digits values h e = subst (All (λ v. v < 16)) (sym e) (values_small digits h)

pub pairs_more : (values room : List ℕ) (i byte : ℕ) → i < length room → 2 * i + 1 < length values → byte ≡ get_or values (2 * i) 0 * 16 + get_or values (2 * i + 1) 0
    → take i room ++ paired (drop (2 * i) values) ≡ paired values → take (i + 1) (set room i byte) ++ paired (drop (2 * (i + 1)) values) ≡ paired values
pairs_more values room i byte lt fits b e =
    let rest = paired (drop (2 * (i + 1)) values) in
    ap (λ (x : List ℕ). x ++ rest) (take_more_set room i byte lt)
    ∙ append_assoc (take i room) (byte ∷ []) rest
    ∙ ap (λ (x : ℕ). take i room ++ x ∷ rest) b
    ∙ ap (λ (x : List ℕ). take i room ++ paired x) (sym (drop-pair values i fits))
    ∙ e

pub pairs_done : (values room : List ℕ) (i : ℕ) → length room ≤ i → length values ≤ 2 * i → take i room ++ paired (drop (2 * i) values) ≡ paired values → room ≡ paired values
pairs_done values room i le all e =
    sym (take_all i room le)
    ∙ sym (append-nil (take i room))
    ∙ ap (λ (x : List ℕ). take i room ++ paired x) (sym (drop_all (2 * i) values all))
    ∙ e

decoded_from : (i : ℕ) (digits : List ℕ) → length digits % 2 ≡ 0 → list_all is_ascii_hexdigit digits ≡ true → decode_pairs i digits ≡ Ok (paired (map digit_value digits))
unfolding decode_pairs
decoded_from i [] even h = refl
decoded_from i (a ∷ []) even h = absurd (omega arith)
decoded_from i (a ∷ b ∷ rest) even h =
    let p = and_parts (is_ascii_hexdigit a) (list_all is_ascii_hexdigit (b ∷ rest)) h in
    let q = and_parts (is_ascii_hexdigit b) (list_all is_ascii_hexdigit rest) p.1 in
    let high : value_at a i ≡ Ok (digit_value a) = ap (digit_or_error a i) (value_is a p.0).1 in
    let low : value_at b (i + 1) ≡ Ok (digit_value b) = ap (digit_or_error b (i + 1)) (value_is b q.0).1 in
    let byte = digit_value a * 16 + digit_value b in
    let pair : pair_value a b i ≡ Ok byte = rw (high, low) refl in
    decode_pairs-ok_pair i a b byte rest pair ∙ ap (cons_byte byte) (decoded_from (i + 2) rest (omega arith) q.1)

decoded : (digits : List ℕ) → length digits % 2 ≡ 0 → list_all is_ascii_hexdigit digits ≡ true → decode_of digits ≡ Ok (paired (map digit_value digits))
decoded digits even h = decode_of-even digits even ∙ decoded_from 0 digits even h

-- as many digits as are taken at once
pub even_decoded : (digits bytes values : List ℕ) → length digits % 2 ≡ 0 → list_all is_ascii_hexdigit digits ≡ true → values ≡ map digit_value digits → bytes ≡ paired values → decode_of digits ≡ Ok bytes
even_decoded digits bytes values even h v e =
    decoded digits even h ∙ ap (λ (x : List ℕ). Ok (paired x)) (sym v) ∙ ap (λ (x : List ℕ). Ok x) (sym e)

-- the bytes of digits behind one another

paired_append : (xs ys : List ℕ) → length xs % 2 ≡ 0 → paired (xs ++ ys) ≡ paired xs ++ paired ys
paired_append [] ys even = refl
paired_append (x ∷ []) ys even = absurd (omega arith)
paired_append (x ∷ y ∷ xs) ys even = ap (λ (l : List ℕ). (x * 16 + y) ∷ l) (paired_append xs ys (omega arith))

-- what digits are that are read
record Read (digits bytes : List ℕ) : Type 0 where
  pub all : list_all is_ascii_hexdigit digits ≡ true
  pub even : length digits % 2 ≡ 0
  pub bytes_are : bytes ≡ paired (map digit_value digits)

abbrev Answer : Type 0
Answer = Result (List ℕ) FromHexError

abbrev given : List ℕ → Answer
given bytes = Ok bytes

ok_is : (x y : List ℕ) → given x ≡ given y → x ≡ y
ok_is x y e = cc

read_is : (digits bytes : List ℕ) → decode_of digits ≡ Ok bytes → Read digits bytes
read_is digits bytes e =
    let even = (decode_of-ok digits bytes e).0 in
    let all = written_digits digits bytes e in
    record { all = all; even = even; bytes_are = ok_is bytes (paired (map digit_value digits)) (sym e ∙ decoded digits even all) }

both_read : (a b x y : List ℕ) → Read a x → Read b y → decode_of (a ++ b) ≡ Ok (x ++ y)
both_read a b x y r s =
    let even : length (a ++ b) % 2 ≡ 0 = omega (arith, length-append a b, r.even, s.even) in
    let all = all_append is_ascii_hexdigit a b r.all s.all in
    let front_even : length (map digit_value a) % 2 ≡ 0 = omega (arith, length-map a digit_value, r.even) in
    let same : paired (map digit_value (a ++ b)) ≡ x ++ y =
    ap paired (map-append digit_value a b) ∙ paired_append (map digit_value a) (map digit_value b) front_even ∙ ap (λ (l : List ℕ). l ++ paired (map digit_value b)) (sym r.bytes_are) ∙ ap (λ (l : List ℕ). x ++ l) (sym s.bytes_are) in
    decoded (a ++ b) even all ∙ ap (λ (l : List ℕ). Ok l) same

pub both_decoded : (a b x y : List ℕ) → decode_of a ≡ Ok x → decode_of b ≡ Ok y → decode_of (a ++ b) ≡ Ok (x ++ y)
both_decoded a b x y e f = both_read a b x y (read_is a x e) (read_is b y f)

-- where all digits are read, those behind the first are
pub rest_decoded : (a b x z : List ℕ) → decode_of a ≡ Ok x → decode_of (a ++ b) ≡ Ok z → decode_of b ≡ Ok (paired (map digit_value b))
rest_decoded a b x z e f =
    let r = read_is a x e in
    let s = read_is (a ++ b) z f in
    decoded b (omega (arith, length-append a b, r.even, s.even)) (all_parts is_ascii_hexdigit a b s.all).1

pub none_decoded : (digits room : List ℕ) → decode_of (take (2 * 0) digits) ≡ Ok (take 0 room)
unfolding decode_pairs
none_decoded digits room = refl

-- some bytes more, in a room of which they are written
pub some_more : (digits room bytes : List ℕ) (done n k : ℕ) → done ≤ length room → length bytes ≡ n → 2 * done + 2 * n - 2 * done ≡ k
    → decode_of (take (2 * done) digits) ≡ Ok (take done room) → decode_of (take k (drop (2 * done) digits)) ≡ Ok bytes
    → decode_of (take (2 * (done + n)) digits) ≡ Ok (take (done + n) (put_mid done (done + n - done) room bytes))
some_more digits room bytes done n k within len eq front more =
    let twice : k ≡ 2 * n = omega (arith, eq) in
    let both : 2 * (done + n) ≡ 2 * done + 2 * n = omega arith in
    let next : decode_of (take (2 * n) (drop (2 * done) digits)) ≡ Ok bytes = ap (λ (m : ℕ). decode_of (take m (drop (2 * done) digits))) (sym twice) ∙ more in
    let place : done + n ≡ done + length bytes = omega (arith, len) in
    ap (λ (m : ℕ). decode_of (take m digits)) both
    ∙ ap decode_of (take-add (2 * done) (2 * n) digits)
    ∙ both_decoded (take (2 * done) digits) (take (2 * n) (drop (2 * done) digits)) (take done room) bytes front next
    ∙ ap given (sym (take-put_mid done (done + n - done) room bytes (done + n) place within))

-- the rest is decoded into a room of its size

abbrev Outcome : Type 0
Outcome = Result (Unit {0}) FromHexError

abbrev Tells : Answer → Outcome → List ℕ → Type 0
Tells answer outcome out = MatchResult answer (λ bytes. (outcome ≡ Ok tt) × (out ≡ bytes)) (λ e. outcome ≡ Err e)

sized_is : (digits : List ℕ) (n : ℕ) → length digits / 2 ≡ n → decode_sized digits n ≡ decode_of digits
sized_is digits n len = rw len (grind arith)

told_bytes : (answer : Answer) (outcome : Outcome) (out : List ℕ) → Tells answer outcome out → outcome ≡ Ok tt → answer ≡ Ok out
told_bytes (Ok bytes) outcome out t e = ap given (sym t.1)
told_bytes (Err fault) outcome out t e = absurd cc

told_fault : (answer : Answer) (outcome : Outcome) (out : List ℕ) (fault : FromHexError) → Tells answer outcome out → outcome ≡ Err fault → result_ok answer ≡ None
told_fault (Ok bytes) outcome out fault t e = absurd cc
told_fault (Err other) outcome out fault t e = refl

-- the first bytes are in their place, and what is decoded behind them is put behind them
pub record Rest (digits room rest : List ℕ) (done n : ℕ) (outcome : Outcome) (out : List ℕ) : Type 0 where
  pub rest_is : rest ≡ take (length digits - 2 * done) (drop (2 * done) digits)
  pub n_is : n ≡ length (take (length room - done) (drop done room))
  pub fits : length digits / 2 ≡ length room
  pub within : done ≤ length room
  pub front : decode_of (take (2 * done) digits) ≡ Ok (take done room)
  pub tells : Tells (decode_sized rest n) outcome out

rest_tells : (digits room rest : List ℕ) (done n : ℕ) (outcome : Outcome) (out : List ℕ) → Rest digits room rest done n outcome out
    → Tells (decode_of (drop (2 * done) digits)) outcome out
rest_tells digits room rest done n outcome out r =
    let behind : rest ≡ drop (2 * done) digits = r.rest_is ∙ take_all (length digits - 2 * done) (drop (2 * done) digits) (omega (arith, length-drop (2 * done) digits)) in
    let place : n ≡ length room - done = omega (arith, r.n_is, length-take (length room - done) (drop done room), length-drop done room) in
    let half : length rest / 2 ≡ n = omega (arith, ap length behind, length-drop (2 * done) digits, place, r.fits, r.within) in
    subst (λ (x : List ℕ). Tells (decode_of x) outcome out) behind (subst (λ (x : Answer). Tells x outcome out) (sized_is rest n half) r.tells)

pub all_put : (digits room rest : List ℕ) (done n : ℕ) (outcome : Outcome) (out : List ℕ) → Rest digits room rest done n outcome out → outcome ≡ Ok tt
    → decode_of digits ≡ Ok (put_mid done (length room - done) room out)
all_put digits room rest done n outcome out r e =
    let behind = told_bytes (decode_of (drop (2 * done) digits)) outcome out (rest_tells digits room rest done n outcome out r) e in
    ap decode_of (sym (take-append-drop (2 * done) digits))
    ∙ both_decoded (take (2 * done) digits) (drop (2 * done) digits) (take done room) out r.front behind
    ∙ ap given (sym (put_end room out done))

pub none_put : (digits room rest : List ℕ) (done n : ℕ) (outcome : Outcome) (out : List ℕ) (fault : FromHexError) → Rest digits room rest done n outcome out → outcome ≡ Err fault
    → result_ok (decode_of digits) ≡ None
none_put digits room rest done n outcome out fault r e = by_answer (decode_of digits) refl
  where
    by_answer : (x : Answer) → decode_of digits ≡ x → result_ok x ≡ None
    by_answer (Ok bytes) h =
        let whole : decode_of (take (2 * done) digits ++ drop (2 * done) digits) ≡ Ok bytes = ap decode_of (take-append-drop (2 * done) digits) ∙ h in
        let behind = rest_decoded (take (2 * done) digits) (drop (2 * done) digits) (take done room) bytes r.front whole in
        let bad = told_fault (decode_of (drop (2 * done) digits)) outcome out fault (rest_tells digits room rest done n outcome out r) e in
        absurd (let f : Some (paired (map digit_value (drop (2 * done) digits))) ≡ None = ap result_ok (sym behind) ∙ bad in cc)
    by_answer (Err other) h = refl

pub number_decoded : (digits bytes values : List ℕ) → length digits ≡ 8 → list_all is_ascii_hexdigit (take 8 digits) ≡ true → values ≡ map digit_value (take 8 digits) → bytes ≡ paired values
    → number_of digits ≡ Some (from_be_bytes w32 bytes)
unfolding number_of
number_decoded digits bytes values len h v e =
    let all : take 8 digits ≡ digits = take_all 8 digits (omega arith) in
    let even : length digits % 2 ≡ 0 = omega arith in
    let written : decode_of digits ≡ Ok bytes =
    decoded digits even (ap (list_all is_ascii_hexdigit) (sym all) ∙ h) ∙ ap (λ (x : List ℕ). Ok (paired (map digit_value x))) (sym all) ∙ ap (λ (x : List ℕ). Ok (paired x)) (sym v) ∙ ap (λ (x : List ℕ). Ok x) (sym e) in
    rw written refl

pub no_number : (digits : List ℕ) → length digits ≡ 8 → list_all is_ascii_hexdigit (take 8 digits) ≡ false → number_of digits ≡ None
unfolding number_of
no_number digits len h = by_answer (decode_of digits) refl
  where
    by_answer : (r : Result (List ℕ) FromHexError) → decode_of digits ≡ r → option_map (from_be_bytes w32) (result_ok r) ≡ None
    by_answer (Ok bytes) e =
        let all : take 8 digits ≡ digits = take_all 8 digits (omega arith) in
        absurd (let f : true ≡ false = sym (written_digits digits bytes e) ∙ ap (list_all is_ascii_hexdigit) (sym all) ∙ h in cc)
    by_answer (Err fault) e = refl

-- ---- written

abbrev digit_of : ℕ → ℕ
digit_of value = cond (ltb value 10) (48 + value) (55 + value)

pub digit_is : (value : ℕ) → value < 16 → get_or upper_digits value 0 ≡ cond (ltb value 10) (48 + value) (55 + value)
digit_is value lt =
    let all : upper_digits ≡ map digit_of (range_with_len 0 16) = refl in
    let here : 0 + value ≡ value = omega arith in
    ap (λ (x : List ℕ). get_or x value 0) all ∙ get_or-map-range_with_len digit_of 0 16 value value 0 lt here

front_encoded : (table bytes : List ℕ) (n : ℕ) → take (2 * n) (encode_with table bytes) ≡ encode_with table (take n bytes)
unfolding encode_with
front_encoded table bytes zero = refl
front_encoded table [] (suc n) =
    let two : 2 * suc n ≡ suc (suc (2 * n)) = omega arith in
    rw two refl
front_encoded table (b ∷ bytes) (suc n) =
    let two : 2 * suc n ≡ suc (suc (2 * n)) = omega arith in
    rw two (ap (λ (x : List ℕ). get_or table (b / 16) 0 ∷ get_or table (b % 16) 0 ∷ x) (front_encoded table bytes n))

-- the digits of the first bytes
pub held_encoded : (held bytes digits : List ℕ) → held ≡ take (length held) bytes → digits ≡ encode_upper bytes → take (2 * length held) digits ≡ encode_upper held
held_encoded held bytes digits front e = ap (take (2 * length held)) e ∙ front_encoded upper_digits bytes (length held) ∙ ap encode_upper (sym front)
