-- Bytes in hexadecimal digits, up to the end of the line or a space.
use Rattle.std.proofs.Common.{◌≡◌, ℕ, ◌+◌, ◌*◌, ◌≤◌, true, false, leb, List, [], ◌∷◌, ◌++◌, length, drop, Option, Some, None, Ok, refl, sym, ap, ◌∙◌, one-add, arith, inl, inr}
use Rattle.std.specs.Prelude.{◌==◌, ◌||◌, option_map}
use Rattle.std.specs.Char.{is_ascii_hexdigit}
use Rattle.std.specs.List.{prefix_len, list_all}
use Rattle.std.specs.Result.{result_ok}
use Rattle.std.specs.Int.{w32, from_be_bytes}
use Rattle.std.proofs.lemmas.Bool.{cases_Bool, and_parts, eqb-true, leb-true, le-leb}
use Rattle.std.proofs.lemmas.List.{append-nil, take-append-drop}
use Rattle.std.proofs.lemmas.List.Sums.{list_all-from_AllPass}
use Rattle.hex.specs.Hex.{decode_of, is_hex_digit}
use Rattle.hex.proofs.HexLemmas.{decode_of-ok}
use Rattle.sentence_text.proofs.Bytes.{splits, all_weaker}
use Rattle.capture_text.specs.Capture.{is_end, IsData, IsNumber}
use Rattle.capture_text.specs.Reading.{is_no_space, up_to_space, bytes_of, bytes_before_end, data_at, number_of, is_other_kind}
use Rattle.capture_text.proofs.Cuts.{if_some, some_is, result_some}

digit_of_hex : (c : ℕ) → is_hex_digit c ≡ true → is_ascii_hexdigit c ≡ true
digit_of_hex c h = grind arith

pub hex_of_digit : (c : ℕ) → is_ascii_hexdigit c ≡ true → is_hex_digit c ≡ true
hex_of_digit c h = grind arith

pub written_digits : (digits bytes : List ℕ) → decode_of digits ≡ Ok bytes → list_all is_ascii_hexdigit digits ≡ true
written_digits digits bytes e = all_weaker is_hex_digit is_ascii_hexdigit digit_of_hex digits (list_all-from_AllPass is_hex_digit digits (decode_of-ok digits bytes e).1)

-- a digit is no space
pub no_space : (c : ℕ) → is_ascii_hexdigit c ≡ true → is_no_space c ≡ true
no_space c h = grind arith

pub end_stops : (rest : List ℕ) → is_end rest ≡ true → prefix_len is_no_space rest ≡ 0
end_stops [] h = refl
end_stops (c ∷ cs) h = rw (eqb-true c 32 h) refl

-- what follows the bytes before the first space
pub up_to_end : (text : List ℕ) → is_end (drop (prefix_len is_no_space text) text) ≡ true
up_to_end [] = refl
up_to_end (c ∷ cs) = elim (cases_Bool (c == 32)) [
  | inl e ↦ rw e e
  | inr e ↦
      let len : prefix_len is_no_space (c ∷ cs) ≡ 1 + prefix_len is_no_space cs = rw e refl in
      ap (λ (n : ℕ). is_end (drop n (c ∷ cs))) (len ∙ one-add (prefix_len is_no_space cs)) ∙ up_to_end cs
]

-- digits that are written are what stands before the first space
pub digits_again : (digits rest bytes : List ℕ) → decode_of digits ≡ Ok bytes → is_end rest ≡ true → up_to_space (digits ++ rest) ≡ digits
digits_again digits rest bytes written ends =
    (splits is_no_space digits rest (all_weaker is_ascii_hexdigit is_no_space no_space digits (written_digits digits bytes written)) (end_stops rest ends)).front_is

-- ---- bytes before the end or a space

pub record BytesFound (most : ℕ) (text bytes : List ℕ) : Type 0 where
  pub digits : List ℕ
  pub rest : List ℕ
  pub spelled : text ≡ digits ++ rest
  pub few : length digits ≤ 2 * most
  pub written : decode_of digits ≡ Ok bytes
  pub ends : is_end rest ≡ true

pub bytes_found : (most : ℕ) (text bytes : List ℕ) → bytes_before_end most text ≡ Some bytes → BytesFound most text bytes
unfolding bytes_before_end
bytes_found most text bytes e =
    let digits = up_to_space text in
    let made = if_some (leb (length digits) (2 * most)) (result_ok (decode_of digits)) bytes e in
    record {
      digits = digits;
      rest = drop (prefix_len is_no_space text) text;
      spelled = sym (take-append-drop (prefix_len is_no_space text) text);
      few = leb-true (length digits) (2 * most) made.0;
      written = result_some (decode_of digits) bytes made.1;
      ends = up_to_end text;
    }

pub bytes_again : (most : ℕ) (digits rest bytes : List ℕ) → length digits ≤ 2 * most → decode_of digits ≡ Ok bytes → is_end rest ≡ true
    → bytes_before_end most (digits ++ rest) ≡ Some bytes
unfolding bytes_before_end
bytes_again most digits rest bytes few written ends =
    let fits : leb (length digits) (2 * most) ≡ true = le-leb (length digits) (2 * most) few in
    ap (bytes_of most) (digits_again digits rest bytes written ends) ∙ rw (fits, written) refl

-- where all of a text is digits, they are the bytes before its end
pub whole_is_bytes : (most : ℕ) (text bytes : List ℕ) → bytes_of most text ≡ Some bytes → bytes_before_end most text ≡ Some bytes
whole_is_bytes most text bytes e =
    let made = if_some (leb (length text) (2 * most)) (result_ok (decode_of text)) bytes e in
    ap (bytes_before_end most) (sym (append-nil text))
    ∙ bytes_again most text [] bytes (leb-true (length text) (2 * most) made.0) (result_some (decode_of text) bytes made.1) refl

pub data_found : (behind held : List ℕ) → data_at behind ≡ Some held → IsData held behind
data_found behind held e =
    let f = bytes_found 8 behind held e in
    record { digits = f.digits; rest = f.rest; spelled = f.spelled; few = f.few; written = f.written; ends = f.ends }

pub data_again : (behind held : List ℕ) → IsData held behind → data_at behind ≡ Some held
data_again behind held h = ap data_at h.spelled ∙ bytes_again 8 h.digits h.rest held h.few h.written h.ends

-- data don't begin as another kind of frame
plain_digit : (c : ℕ) → is_ascii_hexdigit c ≡ true → (c == 82 || c == 35) ≡ false
plain_digit c h = grind arith

plain_start : (digits rest : List ℕ) → list_all is_ascii_hexdigit digits ≡ true → is_end rest ≡ true → is_other_kind (digits ++ rest) ≡ false
plain_start [] [] d e = refl
plain_start [] (c ∷ cs) d e = rw (eqb-true c 32 e) refl
plain_start (c ∷ cs) rest d e = plain_digit c (and_parts (is_ascii_hexdigit c) (list_all is_ascii_hexdigit cs) d).0

pub data_plain : (behind held : List ℕ) → IsData held behind → is_other_kind behind ≡ false
data_plain behind held h = ap is_other_kind h.spelled ∙ plain_start h.digits h.rest (written_digits h.digits held h.written) h.ends

-- the bytes of sixteen digits
pub eight_are_data : (text bytes : List ℕ) → length text ≡ 16 → decode_of text ≡ Ok bytes → (data_at text ≡ Some bytes) × (is_other_kind text ≡ false)
eight_are_data text bytes len written =
    let fits : leb (length text) 16 ≡ true = le-leb (length text) 16 (omega arith) in
    let made : bytes_of 8 text ≡ Some bytes = rw (fits, written) refl in
    let whole = whole_is_bytes 8 text bytes made in
    (whole, data_plain text bytes (data_found text bytes whole))

-- ---- the number of eight digits

number_with : (digits : List ℕ) (bytes : Option (List ℕ)) (n : ℕ) → result_ok (decode_of digits) ≡ bytes → length digits ≡ 8 → option_map (from_be_bytes w32) bytes ≡ Some n → IsNumber n digits
number_with digits None n e eight f = absurd cc
number_with digits (Some bytes) n e eight f = record { eight = eight; bytes = bytes; written = result_some (decode_of digits) bytes e; value = sym (some_is (from_be_bytes w32 bytes) n f) }

pub number_found : (digits : List ℕ) (n : ℕ) → length digits ≡ 8 → number_of digits ≡ Some n → IsNumber n digits
unfolding number_of
number_found digits n eight e = number_with digits (result_ok (decode_of digits)) n refl eight e

pub number_again : (digits : List ℕ) (n : ℕ) → IsNumber n digits → number_of digits ≡ Some n
unfolding number_of
number_again digits n h =
    let written : decode_of digits ≡ Ok h.bytes = h.written in
    rw written (ap (λ (x : ℕ). Some x) (sym h.value))
