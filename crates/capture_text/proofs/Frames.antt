-- What follows the interface of a bus: what is read is spelled so, and what is spelled so is read.
use Rattle.std.proofs.Common.{◌≡◌, ℕ, suc, ◌+◌, ◌-◌, ◌%◌, ◌<◌, ◌≤◌, ◌^◌, Bool, true, false, cond, ltb, List, [], ◌∷◌, ◌++◌, length, get_or, take, drop, Option, Some, None, Result, Ok, Err, refl, sym, ap, subst, ◌∙◌, arith, inl, inr}
use Rattle.std.specs.Prelude.{◌==◌, ◌||◌, ◌⊎◌, is_some}
use Rattle.std.specs.Char.{is_ascii_hexdigit}
use Rattle.std.specs.Int.{w32, from_be_bytes}
use Rattle.std.specs.List.{list_all}
use Rattle.std.proofs.lemmas.Bool.{cases_Bool, eqb-true, lt-ltb, le-ltb}
use Rattle.std.proofs.lemmas.List.{length-drop, length-take, get_or_append_left, take_all}
use Rattle.std.proofs.lemmas.List.Elements.{All-get_or}
use Rattle.std.proofs.lemmas.List.Sums.{AllPass-from_list_all}
use Rattle.hex.specs.Hex.{is_hex_digit}
use Rattle.hex.proofs.HexLemmas.{decode_of-digits}
use Rattle.sentence_text.proofs.Bytes.{all_weaker}
use Rattle.n2k_id.specs.Frame.{BusFrame}
use Rattle.capture_text.specs.declared.line_rule.LineRule.{LineRule}
use Rattle.capture_text.specs.declared.line_rule.LineRule.TheVariants.{Form, NotExtended, Long}
use Rattle.capture_text.specs.Capture.{IsData, IsNumber, IsShort, IsWide, IsOtherKind, IsOtherFrame}
use Rattle.capture_text.specs.Reading.{data_at, number_of, is_other_kind, short_frame, frame_with, wide_frame, frame_at}
use Rattle.capture_text.proofs.Cuts.{within, cut_by_test, cut_at}
use Rattle.capture_text.proofs.Data.{hex_of_digit, written_digits, data_found, data_again, data_plain, number_found, number_again}

abbrev Answer : Type 0
Answer = Result BusFrame LineRule

abbrev given : BusFrame → Answer
given f = Ok f

abbrev refused : LineRule → Answer
refused r = Err r

given_is : (f g : BusFrame) → given f ≡ given g → f ≡ g
given_is f g e = cc

-- an identifier of hexadecimal digits, `#` and what follows it
pub record Layout (tail identifier behind : List ℕ) : Type 0 where
  pub spelled : tail ≡ 32 ∷ (identifier ++ 35 ∷ behind)
  pub digits : list_all is_ascii_hexdigit identifier ≡ true

-- the identifier has three digits, or eight that write a number, or there is none
data FrameKind (tail : List ℕ) : Type 0 where
  short : (identifier behind : List ℕ) → Layout tail identifier behind → length identifier ≡ 3 → frame_at tail ≡ short_frame true behind → FrameKind tail
  wide : (identifier behind : List ℕ) (id : ℕ) → Layout tail identifier behind → IsNumber id identifier → frame_at tail ≡ wide_frame (Some id) behind → FrameKind tail
  formless : frame_at tail ≡ Err Form → FrameKind tail

front_len : (text : List ℕ) (n c : ℕ) → get_or text n 0 ≡ suc c → length (take n text) ≡ n
front_len text n c e = omega (arith, length-take n text, within text n c e)

frame_kind : (tail : List ℕ) → FrameKind tail
unfolding frame_at
frame_kind tail =
    let digits = drop 1 tail in
    elim (cases_Bool (get_or tail 0 0 == 32)) [
      | inr e ↦ formless (rw e refl)
      | inl e ↦
          let a : tail ≡ 32 ∷ digits = cut_by_test tail 0 31 e in
          elim (cases_Bool (get_or digits 3 0 == 35)) [
            | inl three ↦
                elim (cases_Bool (list_all is_ascii_hexdigit (take 3 digits))) [
                  | inl all ↦
                      short (take 3 digits) (drop 4 digits) (record { spelled = a ∙ ap (λ (x : List ℕ). 32 ∷ x) (cut_by_test digits 3 34 three); digits = all })
                      (front_len digits 3 34 (eqb-true (get_or digits 3 0) 35 three))
                      (rw (e, three, all) refl)
                  | inr other ↦ formless (rw (e, three, other) refl)
                ]
            | inr longer ↦
                elim (cases_Bool (get_or digits 8 0 == 35)) [
                  | inl eight ↦
                      with_number tail (number_of (take 8 digits)) (a ∙ ap (λ (x : List ℕ). 32 ∷ x) (cut_by_test digits 8 34 eight)) (front_len digits 8 34 (eqb-true (get_or digits 8 0) 35 eight)) refl
                      (rw (e, longer, eight) refl)
                  | inr other ↦ formless (rw (e, longer, other) refl)
                ]
          ]
    ]
  where
    with_number : (tail : List ℕ) (id : Option ℕ) → tail ≡ 32 ∷ (take 8 (drop 1 tail) ++ 35 ∷ drop 9 (drop 1 tail)) → length (take 8 (drop 1 tail)) ≡ 8 → number_of (take 8 (drop 1 tail)) ≡ id
        → frame_at tail ≡ wide_frame (number_of (take 8 (drop 1 tail))) (drop 9 (drop 1 tail)) → FrameKind tail
    with_number tail None spelled eight n g = formless (g ∙ ap (λ (x : Option ℕ). wide_frame x (drop 9 (drop 1 tail))) n)
    with_number tail (Some id) spelled eight n g =
        let identifier = take 8 (drop 1 tail) in
        let is = number_found identifier id eight n in
        wide identifier (drop 9 (drop 1 tail)) id (record { spelled = spelled; digits = written_digits identifier is.bytes is.written }) is (g ∙ ap (λ (x : Option ℕ). wide_frame x (drop 9 (drop 1 tail))) n)

-- ---- what is laid out so gives this

short_again : (tail identifier behind : List ℕ) → Layout tail identifier behind → length identifier ≡ 3 → frame_at tail ≡ short_frame true behind
unfolding frame_at
short_again tail identifier behind h three =
    let text = identifier ++ 35 ∷ behind in
    let cut = cut_at identifier 35 behind 3 three in
    let byte : get_or text 3 0 ≡ 35 = cut.byte_is in
    let front : take 3 text ≡ identifier = cut.front_is in
    let rest : drop 4 text ≡ behind = cut.behind_is in
    let digits : list_all is_ascii_hexdigit identifier ≡ true = h.digits in
    ap frame_at h.spelled ∙ rw (byte, front, rest, digits) refl

no_hash : (c : ℕ) → is_ascii_hexdigit c ≡ true → (c == 35) ≡ false
no_hash c h = grind arith

-- one of eight digits has no `#` behind its third
no_short : (identifier behind : List ℕ) → list_all is_ascii_hexdigit identifier ≡ true → length identifier ≡ 8 → (get_or (identifier ++ 35 ∷ behind) 3 0 == 35) ≡ false
no_short identifier behind digits eight =
    let lt : 3 < length identifier = omega (arith, eight) in
    let digit : is_ascii_hexdigit (get_or identifier 3 0) ≡ true = All-get_or (λ c. is_ascii_hexdigit c ≡ true) identifier 3 0 lt (AllPass-from_list_all is_ascii_hexdigit identifier digits) in
    ap (λ (c : ℕ). c == 35) (get_or_append_left identifier (35 ∷ behind) 0 3 lt) ∙ no_hash (get_or identifier 3 0) digit

pub wide_again : (tail identifier behind : List ℕ) (id : ℕ) → Layout tail identifier behind → IsNumber id identifier → frame_at tail ≡ wide_frame (Some id) behind
unfolding frame_at
wide_again tail identifier behind id h n =
    let text = identifier ++ 35 ∷ behind in
    let cut = cut_at identifier 35 behind 8 n.eight in
    let longer : (get_or text 3 0 == 35) ≡ false = no_short identifier behind h.digits n.eight in
    let byte : get_or text 8 0 ≡ 35 = cut.byte_is in
    let front : take 8 text ≡ identifier = cut.front_is in
    let rest : drop 9 text ≡ behind = cut.behind_is in
    let number : number_of identifier ≡ Some id = number_again identifier id n in
    ap frame_at h.spelled ∙ rw (longer, byte, front, rest, number) refl

-- ---- what is read by the place of the `#`

-- it stands at this place, with these bytes before and behind it
abbrev pub IsSplit : List ℕ → ℕ → List ℕ → List ℕ → Type 0
IsSplit text place front rest = ((get_or text place 0 == 35) ≡ true) × (front ≡ take place text) × (rest ≡ drop (place + 1) text)

behind_one : (tail digits : List ℕ) → digits ≡ take (length tail - 1) (drop 1 tail) → digits ≡ drop 1 tail
behind_one tail digits is = is ∙ take_all (length tail - 1) (drop 1 tail) (omega (arith, length-drop 1 tail))

pub short_told : (tail digits identifier behind : List ℕ) (answer : Answer) → get_or tail 0 0 ≡ 32 → digits ≡ take (length tail - 1) (drop 1 tail)
    → IsSplit digits 3 identifier behind → answer ≡ short_frame (list_all is_ascii_hexdigit identifier) behind → answer ≡ frame_at tail
unfolding frame_at
short_told tail digits identifier behind answer space is split answered =
    let there = subst (λ (t : List ℕ). IsSplit t 3 identifier behind) (behind_one tail digits is) split in
    let hash = there.0 in
    let shape : frame_at tail ≡ short_frame (list_all is_ascii_hexdigit (take 3 (drop 1 tail))) (drop 4 (drop 1 tail)) = rw (space, hash) refl in
    answered ∙ ap (λ (x : List ℕ). short_frame (list_all is_ascii_hexdigit x) behind) there.1
    ∙ ap (λ (x : List ℕ). short_frame (list_all is_ascii_hexdigit (take 3 (drop 1 tail))) x) there.2 ∙ sym shape

pub wide_told : (tail digits identifier behind : List ℕ) (answer : Answer) → get_or tail 0 0 ≡ 32 → digits ≡ take (length tail - 1) (drop 1 tail)
    → (get_or digits 3 0 == 35) ≡ false → IsSplit digits 8 identifier behind → answer ≡ wide_frame (number_of identifier) behind → answer ≡ frame_at tail
unfolding frame_at
wide_told tail digits identifier behind answer space is longer split answered =
    let whole = behind_one tail digits is in
    let long = subst (λ (t : List ℕ). (get_or t 3 0 == 35) ≡ false) whole longer in
    let there = subst (λ (t : List ℕ). IsSplit t 8 identifier behind) whole split in
    let hash = there.0 in
    let shape : frame_at tail ≡ wide_frame (number_of (take 8 (drop 1 tail))) (drop 9 (drop 1 tail)) = rw (space, long, hash) refl in
    answered ∙ ap (λ (x : List ℕ). wide_frame (number_of x) behind) there.1 ∙ ap (λ (x : List ℕ). wide_frame (number_of (take 8 (drop 1 tail))) x) there.2 ∙ sym shape

pub no_hash_told : (tail digits : List ℕ) → get_or tail 0 0 ≡ 32 → digits ≡ take (length tail - 1) (drop 1 tail)
    → (get_or digits 3 0 == 35) ≡ false → (get_or digits 8 0 == 35) ≡ false → refused Form ≡ frame_at tail
unfolding frame_at
no_hash_told tail digits space is no_short no_wide =
    let whole = behind_one tail digits is in
    let long = subst (λ (t : List ℕ). (get_or t 3 0 == 35) ≡ false) whole no_short in
    let other = subst (λ (t : List ℕ). (get_or t 8 0 == 35) ≡ false) whole no_wide in
    rw (space, long, other) refl

-- eight digits write a number
number_there : (identifier : List ℕ) → list_all is_ascii_hexdigit identifier ≡ true → length identifier ≡ 8 → (id : ℕ) × IsNumber id identifier
number_there identifier digits eight =
    let even : length identifier % 2 ≡ 0 = omega (arith, eight) in
    let hex = AllPass-from_list_all is_hex_digit identifier (all_weaker is_ascii_hexdigit is_hex_digit hex_of_digit identifier digits) in
    let r = decode_of-digits identifier even hex in
    (from_be_bytes w32 r.0, record { eight = eight; bytes = r.0; written = r.1; value = refl })

-- ---- a data frame

pub record FrameRead (tail : List ℕ) (seen : BusFrame) : Type 0 where
  pub identifier : List ℕ
  pub behind : List ℕ
  pub layout : Layout tail identifier behind
  pub number : IsNumber seen.id identifier
  pub fits : seen.id < 2 ^ 29
  pub is_data : IsData seen.held behind

record FrameMade (id : ℕ) (behind : List ℕ) (seen : BusFrame) : Type 0 where
  id_is : id ≡ seen.id
  fits : seen.id < 2 ^ 29
  is_data : IsData seen.held behind

with_data : (id : ℕ) (behind : List ℕ) (held : Option (List ℕ)) (seen : BusFrame) → data_at behind ≡ held → frame_with id held ≡ Ok seen → FrameMade id behind seen
with_data id behind None seen d e = absurd (let f : refused Form ≡ Ok seen = e in cc)
with_data id behind (Some held) seen d e =
    let is : (id < 2 ^ 29) × (seen ≡ record { id = id; held = held }) = grind arith in
    rw is.1 (record { id_is = refl; fits = is.0; is_data = data_found behind held d })

by_kind : (id : ℕ) (behind : List ℕ) (seen : BusFrame) → wide_frame (Some id) behind ≡ Ok seen → FrameMade id behind seen
by_kind id behind seen e = with_data id behind (data_at behind) seen refl (grind arith)

abbrev short_by : Bool → Answer
short_by other = cond other (refused NotExtended) (refused Form)

no_short_frame : (other : Bool) (seen : BusFrame) → short_by other ≡ Ok seen → ⊥
no_short_frame other seen e = grind arith

pub frame_found : (tail : List ℕ) (seen : BusFrame) → frame_at tail ≡ Ok seen → FrameRead tail seen
frame_found tail seen e = elim (frame_kind tail) [
  | short identifier behind l three g ↦ absurd (no_short_frame (is_other_kind behind || is_some (data_at behind)) seen (sym g ∙ e))
  | wide identifier behind id l n g ↦
      let made = by_kind id behind seen (sym g ∙ e) in
      record { identifier = identifier; behind = behind; layout = l; number = subst (λ (x : ℕ). IsNumber x identifier) made.id_is n; fits = made.fits; is_data = made.is_data }
  | formless g ↦ absurd (let f : refused Form ≡ Ok seen = sym g ∙ e in cc)
]

pub frame_again : (tail identifier behind : List ℕ) (seen : BusFrame) → Layout tail identifier behind → IsNumber seen.id identifier → seen.id < 2 ^ 29 → IsData seen.held behind → frame_at tail ≡ Ok seen
frame_again tail identifier behind seen l n fits d =
    let plain : is_other_kind behind ≡ false = data_plain behind seen.held d in
    let there : data_at behind ≡ Some seen.held = data_again behind seen.held d in
    let small : ltb seen.id (2 ^ 29) ≡ true = lt-ltb seen.id (2 ^ 29) fits in
    wide_again tail identifier behind seen.id l n ∙ rw (plain, there, small) refl

-- ---- what else a bus carries

pub record OtherRead (tail : List ℕ) : Type 0 where
  pub identifier : List ℕ
  pub behind : List ℕ
  pub layout : Layout tail identifier behind
  pub other : IsOtherFrame identifier behind

other_kind : (identifier behind : List ℕ) → (length identifier ≡ 3) ⊎ (length identifier ≡ 8) → is_other_kind behind ≡ true → IsOtherKind identifier behind
other_kind identifier [] len e = absurd cc
other_kind identifier (c ∷ cs) len e = (len, c, cs, refl, grind arith)

short_data : (identifier behind : List ℕ) (held : Option (List ℕ)) → length identifier ≡ 3 → data_at behind ≡ held → short_by (is_some held) ≡ Err NotExtended → IsOtherFrame identifier behind
short_data identifier behind None three d e = absurd (let f : refused Form ≡ Err NotExtended = e in cc)
short_data identifier behind (Some held) three d e = inl (held, data_found behind held d, inl three)

other_short : (identifier behind : List ℕ) → length identifier ≡ 3 → short_frame true behind ≡ Err NotExtended → IsOtherFrame identifier behind
other_short identifier behind three e = elim (cases_Bool (is_other_kind behind)) [
  | inl other ↦ inr (other_kind identifier behind (inl three) other)
  | inr plain ↦ short_data identifier behind (data_at behind) three refl (rw plain at e)
]

wide_data : (identifier behind : List ℕ) (id : ℕ) (held : Option (List ℕ)) → IsNumber id identifier → data_at behind ≡ held → frame_with id held ≡ Err NotExtended → IsOtherFrame identifier behind
wide_data identifier behind id None n d e = absurd (let f : refused Form ≡ Err NotExtended = e in cc)
wide_data identifier behind id (Some held) n d e =
    let large : 2 ^ 29 ≤ id = grind arith in
    inl (held, data_found behind held d, inr (id, n, large))

other_wide : (identifier behind : List ℕ) (id : ℕ) → IsNumber id identifier → wide_frame (Some id) behind ≡ Err NotExtended → IsOtherFrame identifier behind
other_wide identifier behind id n e = elim (cases_Bool (is_other_kind behind)) [
  | inl other ↦ inr (other_kind identifier behind (inr n.eight) other)
  | inr plain ↦ wide_data identifier behind id (data_at behind) n refl (rw plain at e)
]

pub other_found : (tail : List ℕ) → frame_at tail ≡ Err NotExtended → OtherRead tail
other_found tail e = elim (frame_kind tail) [
  | short identifier behind l three g ↦ record { identifier = identifier; behind = behind; layout = l; other = other_short identifier behind three (sym g ∙ e) }
  | wide identifier behind id l n g ↦ record { identifier = identifier; behind = behind; layout = l; other = other_wide identifier behind id n (sym g ∙ e) }
  | formless g ↦ absurd (let f : refused Form ≡ Err NotExtended = sym g ∙ e in cc)
]

kind_again : (behind : List ℕ) (kind : ℕ) (rest : List ℕ) → behind ≡ kind ∷ rest → (kind ≡ 82) ⊎ (kind ≡ 35) → is_other_kind behind ≡ true
kind_again behind kind rest is h = grind arith

-- of either width
kind_gives : (tail identifier behind : List ℕ) → Layout tail identifier behind → (length identifier ≡ 3) ⊎ (length identifier ≡ 8) → is_other_kind behind ≡ true → frame_at tail ≡ Err NotExtended
kind_gives tail identifier behind l len other = elim len [
  | inl three ↦ short_again tail identifier behind l three ∙ rw other refl
  | inr eight ↦
      let n = number_there identifier l.digits eight in
      wide_again tail identifier behind n.0 l n.1 ∙ rw other refl
]

data_gives : (tail identifier behind held : List ℕ) → Layout tail identifier behind → IsData held behind → IsShort identifier ⊎ IsWide identifier → frame_at tail ≡ Err NotExtended
data_gives tail identifier behind held l d h =
    let plain : is_other_kind behind ≡ false = data_plain behind held d in
    let there : data_at behind ≡ Some held = data_again behind held d in
    elim h [
      | inl three ↦ short_again tail identifier behind l three ∙ rw (plain, there) refl
      | inr w ↦
          let large : ltb w.0 (2 ^ 29) ≡ false = le-ltb w.0 (2 ^ 29) w.2 in
          wide_again tail identifier behind w.0 l w.1 ∙ rw (plain, there, large) refl
    ]

pub other_again : (tail identifier behind : List ℕ) → Layout tail identifier behind → IsOtherFrame identifier behind → frame_at tail ≡ Err NotExtended
other_again tail identifier behind l h = elim h [
  | inl x ↦ data_gives tail identifier behind x.0 l x.1 x.2
  | inr k ↦ kind_gives tail identifier behind l k.0 (kind_again behind k.1 k.2 k.3 k.4)
]

never_long_short : (behind : List ℕ) → short_frame true behind ≡ Err Long → ⊥
never_long_short behind e = grind arith

never_long_wide : (id : ℕ) (behind : List ℕ) → wide_frame (Some id) behind ≡ Err Long → ⊥
never_long_wide id behind e = grind arith

pub frame_never_long : (tail : List ℕ) → frame_at tail ≡ Err Long → ⊥
frame_never_long tail e = elim (frame_kind tail) [
  | short identifier behind l three g ↦ never_long_short behind (sym g ∙ e)
  | wide identifier behind id l n g ↦ never_long_wide id behind (sym g ∙ e)
  | formless g ↦ (let f : refused Form ≡ Err Long = sym g ∙ e in cc)
]
