-- Decimal digits that are written two at a time.
use Rattle.std.proofs.Common.{◌≡◌, ℕ, zero, suc, ◌+◌, ◌-◌, ◌*◌, ◌/◌, ◌%◌, ◌^◌, ◌<◌, ◌≤◌, Bool, true, ◌&&◌, T, eqb, eqb→eq, eq-zero-or-pos, List, [], ◌∷◌, ◌++◌, length, get_or, set, take, drop, refl, sym, ap, ◌∙◌, append_assoc, length-append, length-drop, length-set, arith, inl, inr}
use Rattle.std.specs.Prelude.{codes}
use Rattle.std.specs.Fmt.{decimal}
use Rattle.std.proofs.lemmas.Fmt.{decimal_digit, decimal_nonempty, decimal_step}
use Rattle.std.proofs.lemmas.List.{append-nil, drop-set, drop_at, set_comm, take_at}
use Rattle.std.proofs.Math.Nat.{div-div-eq-div-mul, pow-suc, pow-succ'}
use Rattle.std.proofs.Math.Arith.{mod-mul}
use lib.Ieee.Fits.{and_l, and_r}
use Rattle.unit_fraction.specs.Text.{decimals}
use Rattle.capture_text.specs.declared.decimal.TheConstants.{PAIRS}
use Rattle.capture_text.specs.Writing.{time_text}
use Rattle.capture_text.proofs.Cuts.{four, put_end}
use borrow.Rule.Slice.PartMut.{put_mid}
use Rattle.capture_text.proofs.Numbers.{length-decimals, length_decimal}

-- ---- the table

abbrev are_pairs : ℕ → Bool
are_pairs zero = true
are_pairs (suc p) = (eqb (get_or PAIRS (2 * p) 0) (48 + p / 10) && eqb (get_or PAIRS (2 * p + 1) 0) (48 + p % 10)) && are_pairs p

below : (n p : ℕ) → T (are_pairs n) → p < n → (get_or PAIRS (2 * p) 0 ≡ 48 + p / 10) × (get_or PAIRS (2 * p + 1) 0 ≡ 48 + p % 10)
below zero p t h = absurd (omega arith)
below (suc n) p t h =
    elim (eq-zero-or-pos (n - p)) [
      | inl z ↦ let e : p ≡ n = omega arith in let a = and_l _ (are_pairs n) t in rw e (eqb→eq _ _ (and_l _ _ a), eqb→eq _ _ (and_r _ _ a))
      | inr g ↦ below n p (and_r _ (are_pairs n) t) (omega arith)
    ]

pub pair_at : (p : ℕ) → p < 100 → (get_or PAIRS (2 * p) 0 ≡ 48 + p / 10) × (get_or PAIRS (2 * p + 1) 0 ≡ 48 + p % 10)
pair_at p h = below 100 p tt h

-- ---- digits behind one another

four_are : (n : ℕ) → n < 10 ^ 4 → (48 + n / 100 / 10) ∷ (48 + n / 100 % 10) ∷ (48 + n % 100 / 10) ∷ (48 + n % 100 % 10) ∷ [] ≡ decimals 4 n
four_are n small =
    let a : n / 100 / 10 ≡ n / 10 / 10 / 10 % 10 = omega arith in
    let b : n / 100 % 10 ≡ n / 10 / 10 % 10 = omega arith in
    let c : n % 100 / 10 ≡ n / 10 % 10 = omega arith in
    let d : n % 100 % 10 ≡ n % 10 = omega arith in
    rw (a, b, c, d) refl

set_four : (room : List ℕ) (a b c d : ℕ) → length room ≡ 4 → set (set (set (set room 0 a) 1 b) 2 c) 3 d ≡ a ∷ b ∷ c ∷ d ∷ []
set_four room a b c d len =
    let f = four room len in
    rw (f.4) refl

pub four_put : (n : ℕ) (room : List ℕ) → n < 10 ^ 4 → length room ≡ 4
    → set (set (set (set room 0 (get_or PAIRS (2 * (n / 100)) 0)) 1 (get_or PAIRS (2 * (n / 100) + 1) 0)) 2 (get_or PAIRS (2 * (n % 100)) 0)) 3 (get_or PAIRS (2 * (n % 100) + 1) 0) ≡ decimals 4 n
four_put n room small len =
    let high = pair_at (n / 100) (omega arith) in
    let low = pair_at (n % 100) (omega arith) in
    set_four room _ _ _ _ len ∙ rw (high.0, high.1, low.0, low.1) (four_are n small)

cut : (a b t n : ℕ) → t ≡ a + b → decimals t n ≡ decimals a (n / 10 ^ b) ++ decimals b n
cut a zero t n e =
    let one : n / 10 ^ 0 ≡ n = omega arith in
    let same : t ≡ a = omega (arith, e) in
    rw (same, one) (sym (append-nil (decimals a n)))
cut a (suc b) zero n e = absurd (omega (arith, e))
cut a (suc b) (suc t) n e =
    let power : 10 ^ suc b ≡ 10 * 10 ^ b = pow-succ' 10 b in
    let same : n / 10 ^ suc b ≡ n / 10 / 10 ^ b = rw power (sym (div-div-eq-div-mul n 10 (10 ^ b))) in
    let last = (48 + n % 10) ∷ [] in
    ap (λ (x : List ℕ). x ++ last) (cut a b t (n / 10) (omega (arith, e)))
    ∙ append_assoc (decimals a (n / 10 / 10 ^ b)) (decimals b (n / 10)) last
    ∙ ap (λ (q : ℕ). decimals a q ++ (decimals b (n / 10) ++ last)) (sym same)

some_power : (b : ℕ) → 0 < 10 ^ b
some_power zero = omega arith
some_power (suc b) = let power : 10 ^ suc b ≡ 10 ^ b * 10 = pow-suc 10 b in omega (arith, power, some_power b)

low_digits : (b n : ℕ) → decimals b (n % 10 ^ b) ≡ decimals b n
low_digits zero n = refl
low_digits (suc b) n =
    let power : 10 ^ suc b ≡ 10 ^ b * 10 = pow-suc 10 b in
    let parts : n % 10 ^ suc b ≡ (n / 10 % 10 ^ b) * 10 + n % 10 = rw power (mod-mul n {m = 10 ^ b} {c = 10} (some_power b) (omega arith)) in
    let front : n % 10 ^ suc b / 10 ≡ n / 10 % 10 ^ b = omega (arith, parts) in
    let last : n % 10 ^ suc b % 10 ≡ n % 10 = omega (arith, parts) in
    ap (λ (q : ℕ). decimals b q ++ (48 + n % 10 ^ suc b % 10) ∷ []) front
    ∙ ap (λ (d : ℕ). decimals b (n / 10 % 10 ^ b) ++ (48 + d) ∷ []) last
    ∙ ap (λ (x : List ℕ). x ++ (48 + n % 10) ∷ []) (low_digits b (n / 10))

-- two parts that are put behind one another
halves_put : (room x y : List ℕ) (h : ℕ) → length x ≡ h → put_mid h (length (x ++ drop h room) - h) (x ++ drop h room) y ≡ x ++ y
halves_put room x y h len = put_end (x ++ drop h room) y h ∙ ap (λ (z : List ℕ). z ++ y) (take_at x (drop h room) h len)

eight_is : (n : ℕ) → decimals 8 n ≡ decimals 4 (n / 10 ^ 4) ++ decimals 4 (n % 10 ^ 4)
eight_is n = cut 4 4 8 n refl ∙ ap (λ (x : List ℕ). decimals 4 (n / 10 ^ 4) ++ x) (sym (low_digits 4 n))

sixteen_is : (n : ℕ) → decimals 16 n ≡ decimals 8 (n / 10 ^ 8) ++ decimals 8 (n % 10 ^ 8)
sixteen_is n = cut 8 8 16 n refl ∙ ap (λ (x : List ℕ). decimals 8 (n / 10 ^ 8) ++ x) (sym (low_digits 8 n))

pub eight_put : (n : ℕ) (room x y : List ℕ) → x ≡ decimals 4 (n / 10 ^ 4) → y ≡ decimals 4 (n % 10 ^ 4)
    → put_mid 4 (length (x ++ drop 4 room) - 4) (x ++ drop 4 room) y ≡ decimals 8 n
eight_put n room x y e f =
    halves_put room x y 4 (ap length e)
    ∙ ap (λ (z : List ℕ). z ++ y) e
    ∙ ap (λ (z : List ℕ). decimals 4 (n / 10 ^ 4) ++ z) f
    ∙ sym (eight_is n)

pub sixteen_put : (n : ℕ) (room x y : List ℕ) → x ≡ decimals 8 (n / 10 ^ 8) → y ≡ decimals 8 (n % 10 ^ 8)
    → put_mid 8 (length (x ++ drop 8 room) - 8) (x ++ drop 8 room) y ≡ decimals 16 n
sixteen_put n room x y e f =
    halves_put room x y 8 (ap length e)
    ∙ ap (λ (z : List ℕ). z ++ y) e
    ∙ ap (λ (z : List ℕ). decimals 8 (n / 10 ^ 8) ++ z) f
    ∙ sym (sixteen_is n)

-- ---- all digits of a number

all_are : (k n : ℕ) → 10 ^ k ≤ n → n < 10 ^ suc k → n < 2 ^ 64 → decimal n ≡ decimals (suc k) n
all_are zero n from to fits =
    let same : n % 10 ≡ n = omega arith in
    decimal_digit n (omega arith) ∙ ap (λ (d : ℕ). (48 + d) ∷ []) (sym same)
all_are (suc k) n from to fits =
    let power : 10 ^ suc k ≡ 10 ^ k * 10 = pow-suc 10 k in
    let next : 10 ^ suc (suc k) ≡ 10 ^ suc k * 10 = pow-suc 10 (suc k) in
    decimal_step n (omega (arith, power, some_power k, from)) fits
    ∙ ap (λ (x : List ℕ). x ++ (48 + n % 10) ∷ []) (all_are k (n / 10) (omega (arith, power, from)) (omega (arith, next, to)) (omega (arith, fits)))

usual_is : (moment : ℕ) (digits : List ℕ) → 10 ^ 15 ≤ moment → moment < 10 ^ 16 → digits ≡ decimals 16 moment
    → 40 ∷ (take 10 digits ++ 46 ∷ (drop 10 digits ++ 41 ∷ 32 ∷ [])) ≡ time_text moment
usual_is moment digits late early e =
    let seconds = moment / 10 ^ 6 in
    let whole : decimal seconds ≡ decimals 10 seconds = all_are 9 seconds (omega arith) (omega arith) (omega arith) in
    let both : digits ≡ decimals 10 seconds ++ decimals 6 moment = e ∙ cut 10 6 16 moment refl in
    let front : take 10 digits ≡ decimals 10 seconds = ap (take 10) both ∙ take_at (decimals 10 seconds) (decimals 6 moment) 10 (length-decimals 10 seconds) in
    let behind : drop 10 digits ≡ decimals 6 moment = ap (drop 10) both ∙ drop_at (decimals 10 seconds) (decimals 6 moment) 10 (length-decimals 10 seconds) in
    let point = 46 ∷ (decimals 6 moment ++ 41 ∷ 32 ∷ []) in
    ap (λ (x : List ℕ). 40 ∷ (x ++ 46 ∷ (drop 10 digits ++ 41 ∷ 32 ∷ []))) front
    ∙ ap (λ (x : List ℕ). 40 ∷ (decimals 10 seconds ++ 46 ∷ (x ++ 41 ∷ 32 ∷ []))) behind
    ∙ ap (λ (x : List ℕ). 40 ∷ (x ++ point)) (sym whole)
    ∙ ap (λ (x : List ℕ). 40 ∷ x) (sym (append_assoc (decimal seconds) (46 ∷ decimals 6 moment) (41 ∷ 32 ∷ [])))

-- ---- digits of which the last are written first

pub two_put : (number place : ℕ) (room : List ℕ) → number < 100 → place + 2 ≤ length room
    → drop place (set (set room place (get_or PAIRS (2 * number) 0)) (place + 1) (get_or PAIRS (2 * number + 1) 0)) ≡ (48 + number / 10) ∷ (48 + number % 10) ∷ drop (place + 2) room
two_put number place room small fits =
    let p = pair_at number small in
    let e : place + 1 + 1 ≡ place + 2 = omega arith in
    rw (p.0, p.1, set_comm room place (place + 1) _ _ (λ x. omega arith), drop-set (set room (place + 1) (48 + number % 10)) place _ (omega (arith, fits, length-set room (place + 1) (48 + number % 10))), drop-set room (place + 1) _ (omega (arith, fits)), e)

decimal_pair : (n : ℕ) → 100 ≤ n → n < 2 ^ 64 → decimal n ≡ decimal (n / 100) ++ (48 + n % 100 / 10) ∷ (48 + n % 100 % 10) ∷ []
decimal_pair n more fits =
    let a : n / 10 / 10 ≡ n / 100 = omega arith in
    let b : n / 10 % 10 ≡ n % 100 / 10 = omega arith in
    let c : n % 10 ≡ n % 100 % 10 = omega arith in
    rw (decimal_step n (omega arith) fits, decimal_step (n / 10) (omega arith) (omega arith), append_assoc, a, b, ← c) refl

-- in room for the longest number: the digits of the rest are to be written in front of those that were
pub record Written (n rest start : ℕ) (room : List ℕ) : Type 0 where
  pub fits : n < 2 ^ 64
  pub small : rest < 2 ^ 64
  pub room_len : length room ≡ 20
  pub within : start ≤ length room
  pub text : decimal rest ++ drop start room ≡ decimal n

rest_fits : (n rest start : ℕ) (room : List ℕ) → Written n rest start room → length (decimal rest) ≤ start
rest_fits n rest start room w = omega (arith, w.room_len, w.within, ap length w.text, length-append (decimal rest) (drop start room), length-drop start room, length_decimal n w.fits)

pub one_fits : (n rest start : ℕ) (room : List ℕ) → Written n rest start room → 1 ≤ start
one_fits n rest start room w = omega (arith, rest_fits n rest start room w, decimal_nonempty rest w.small)

pub two_fit : (n rest start : ℕ) (room : List ℕ) → Written n rest start room → 10 ≤ rest → 2 ≤ start
two_fit n rest start room w more =
    omega (
      arith,
      rest_fits n rest start room w,
      ap length (decimal_step rest more w.small),
      length-append (decimal (rest / 10)) ((48 + rest % 10) ∷ []),
      decimal_nonempty (rest / 10) (omega (arith, w.small)),
    )

pub pair_written : (n rest start : ℕ) (room room' : List ℕ) → Written n rest start room → 100 ≤ rest → length room' ≡ length room
    → drop (start - 2) room' ≡ (48 + rest % 100 / 10) ∷ (48 + rest % 100 % 10) ∷ drop (start - 2 + 2) room → Written n (rest / 100) (start - 2) room'
pair_written n rest start room room' w more len e =
    let back : start - 2 + 2 ≡ start = omega (arith, two_fit n rest start room w (omega arith)) in
    let two = (48 + rest % 100 / 10) ∷ (48 + rest % 100 % 10) ∷ [] in
    record {
      fits = w.fits;
      small = omega (arith, w.small);
      room_len = len ∙ w.room_len;
      within = omega (arith, len, w.within);
      text = ap (λ (x : List ℕ). decimal (rest / 100) ++ x) (e ∙ ap (λ (k : ℕ). two ++ drop k room) back)
          ∙ sym (append_assoc (decimal (rest / 100)) two (drop start room))
          ∙ ap (λ (x : List ℕ). x ++ drop start room) (sym (decimal_pair rest more w.small))
          ∙ w.text;
    }

pub last_two : (n rest start : ℕ) (room room' : List ℕ) → Written n rest start room → 10 ≤ rest → rest < 100
    → drop (start - 2) room' ≡ (48 + rest / 10) ∷ (48 + rest % 10) ∷ drop (start - 2 + 2) room → drop (start - 2) room' ≡ decimal n
last_two n rest start room room' w more less e =
    let back : start - 2 + 2 ≡ start = omega (arith, two_fit n rest start room w more) in
    let both : decimal rest ≡ (48 + rest / 10) ∷ (48 + rest % 10) ∷ [] = rw (decimal_step rest more w.small, decimal_digit (rest / 10) (omega arith)) refl in
    e ∙ ap (λ (k : ℕ). (48 + rest / 10) ∷ (48 + rest % 10) ∷ drop k room) back ∙ ap (λ (x : List ℕ). x ++ drop start room) (sym both) ∙ w.text

pub last_one : (n rest start : ℕ) (room : List ℕ) → Written n rest start room → rest < 10 → drop (start - 1) (set room (start - 1) (48 + rest)) ≡ decimal n
last_one n rest start room w less =
    let place = one_fits n rest start room w in
    let back : start - 1 + 1 ≡ start = omega (arith, place) in
    drop-set room (start - 1) (48 + rest) (omega (arith, place, w.within))
    ∙ ap (λ (k : ℕ). (48 + rest) ∷ drop k room) back
    ∙ ap (λ (x : List ℕ). x ++ drop start room) (sym (decimal_digit rest less))
    ∙ w.text

-- the text of a time with other digits in it
pub time_put : (moment : ℕ) (digits seconds micros : List ℕ) → 10 ^ 15 ≤ moment → moment < 10 ^ 16 → digits ≡ decimals 16 moment → seconds ≡ take 10 digits → micros ≡ take 6 (drop 10 digits)
    → put_mid 12 6 (40 ∷ (seconds ++ codes ".000000) ")) micros ≡ time_text moment
time_put moment digits seconds micros late early e first second =
    let all = decimals 16 moment in
    ap (λ (x : List ℕ). put_mid 12 6 (40 ∷ (x ++ codes ".000000) ")) micros) (first ∙ ap (take 10) e)
    ∙ ap (λ (x : List ℕ). put_mid 12 6 (40 ∷ (take 10 all ++ codes ".000000) ")) x) (second ∙ ap (λ (x : List ℕ). take 6 (drop 10 x)) e)
    ∙ usual_is moment all late early refl
