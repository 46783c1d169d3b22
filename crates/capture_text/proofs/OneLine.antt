-- No LF stands in what is written.
use Rattle.std.proofs.Common.{◌≡◌, ℕ, ◌^◌, ◌<◌, ◌/◌, true, false, not, List, [], ◌∷◌, ◌++◌, drop, take, refl, sym, ap, subst, ◌∙◌, arith}
use Rattle.std.specs.Prelude.{codes}
use Rattle.std.specs.Char.{is_ascii_digit, is_ascii_hexdigit}
use Rattle.std.specs.Fmt.{decimal}
use Rattle.std.specs.Int.{w32, to_be_bytes}
use Rattle.std.specs.List.{list_all}
use Rattle.std.proofs.lemmas.List.{append-nil, take-append-drop}
use Rattle.hex.specs.Hex.{IsBytes, encode_upper}
use Rattle.hex.proofs.HexLemmas.{decode_of-encode_upper}
use Rattle.sentence_text.specs.Byte.{is_address_byte, is_capital, is_digit}
use Rattle.sentence_text.specs.Names.{IsGroup, IsSfi}
use Rattle.sentence_text.proofs.Bytes.{all_append, all_parts, all_weaker, splits}
use Rattle.unit_fraction.specs.Text.{decimal_text}
use Rattle.unit_fraction.proofs.Text.{has_form, writes_all}
use Rattle.n2k_id.specs.Frame.{BusFrame}
use Rattle.gate_events.specs.declared.emit.Report.{Report}
use Rattle.capture_text.specs.Lines.{is_lf, is_one_line}
use Rattle.capture_text.specs.Reading.{is_no_space, second_word, up_to_space}
use Rattle.capture_text.specs.Writing.{IsReportLine, datagram_text, detail_text, frame_text, report_text, time_text}
use Rattle.capture_text.proofs.Again.{number_bytes, shape, time_of}
use Rattle.capture_text.proofs.Data.{written_digits}
use Rattle.capture_text.proofs.Numbers.{all_digits}

pub joined : (xs ys : List ℕ) → is_one_line xs ≡ true → is_one_line ys ≡ true → is_one_line (xs ++ ys) ≡ true
joined xs ys x y = all_append (λ c. not (is_lf c)) xs ys x y

digit : (c : ℕ) → is_ascii_digit c ≡ true → not (is_lf c) ≡ true
digit c h = grind arith

hexdigit : (c : ℕ) → is_ascii_hexdigit c ≡ true → not (is_lf c) ≡ true
hexdigit c h = grind arith

capital : (c : ℕ) → is_capital c ≡ true → not (is_lf c) ≡ true
capital c h = grind arith

address_digit : (c : ℕ) → is_digit c ≡ true → not (is_lf c) ≡ true
address_digit c h = grind arith

address_byte : (c : ℕ) → is_address_byte c ≡ true → not (is_lf c) ≡ true
address_byte c h = grind arith

digits_in_line : (ds : List ℕ) → list_all is_ascii_digit ds ≡ true → is_one_line ds ≡ true
digits_in_line ds are = all_weaker is_ascii_digit (λ c. not (is_lf c)) digit ds are

-- ---- numbers

pub number_in_line : (n : ℕ) → n < 2 ^ 64 → is_one_line (decimal n) ≡ true
number_in_line n fits =
    let same : n / 10 ^ 0 ≡ n = omega arith in
    let are = (writes_all 0 n fits).are_digits in
    subst (λ (k : ℕ). is_one_line (decimal k) ≡ true) same
    (digits_in_line (decimal (n / 10 ^ 0))
    (ap (λ (ds : List ℕ). list_all is_ascii_digit ds) (sym (append-nil (decimal (n / 10 ^ 0)))) ∙ all_digits (decimal (n / 10 ^ 0) ++ []) ∙ are))

pub time_in_line : (m : ℕ) → m < 2 ^ 64 → is_one_line (time_text m) ≡ true
time_in_line m fits =
    let form = has_form false m 6 fits in
    let digits = all_parts is_ascii_digit form.whole form.part (all_digits (form.whole ++ form.part) ∙ form.are_digits) in
    joined (decimal_text false m 6) (codes ") ")
    (ap is_one_line form.spelled ∙ joined form.whole (46 ∷ form.part) (digits_in_line form.whole digits.0) (digits_in_line form.part digits.1)) refl

-- ---- the word behind a time

digit_no_space : (c : ℕ) → is_ascii_digit c ≡ true → is_no_space c ≡ true
digit_no_space c h = grind arith

time_no_space : (m : ℕ) → m < 2 ^ 64 → list_all is_no_space (time_of m) ≡ true
time_no_space m fits =
    let form = has_form false m 6 fits in
    let digits = all_parts is_ascii_digit form.whole form.part (all_digits (form.whole ++ form.part) ∙ form.are_digits) in
    let whole = all_weaker is_ascii_digit is_no_space digit_no_space form.whole digits.0 in
    let part = all_weaker is_ascii_digit is_no_space digit_no_space form.part digits.1 in
    all_append is_no_space (decimal_text false m 6) (41 ∷ [])
    (ap (λ (x : List ℕ). list_all is_no_space x) form.spelled ∙ all_append is_no_space form.whole (46 ∷ form.part) whole part) refl

pub word_behind : (m : ℕ) (word rest : List ℕ) → m < 2 ^ 64 → list_all is_no_space word ≡ true → second_word (time_text m ++ (word ++ 32 ∷ rest)) ≡ word
word_behind m word rest fits is =
    let behind = 32 ∷ (word ++ 32 ∷ rest) in
    let first = splits is_no_space (time_of m) behind (time_no_space m fits) refl in
    ap second_word (shape m (word ++ 32 ∷ rest))
    ∙ ap (λ (x : List ℕ). up_to_space (drop 1 x)) first.tail_is
    ∙ (splits is_no_space word (32 ∷ rest) is refl).front_is

hex_in_line : (bytes : List ℕ) → IsBytes bytes → is_one_line (encode_upper bytes) ≡ true
hex_in_line bytes are =
    all_weaker is_ascii_hexdigit (λ c. not (is_lf c)) hexdigit (encode_upper bytes) (written_digits (encode_upper bytes) bytes (decode_of-encode_upper bytes are))

-- ---- frames and datagrams

pub frame_in_line : (f : BusFrame) → IsBytes f.held → is_one_line (frame_text f) ≡ true
frame_in_line f are =
    let id = encode_upper (to_be_bytes w32 f.id) in
    joined (codes "can0 ") (id ++ 35 ∷ encode_upper f.held) refl
    (joined id (35 ∷ encode_upper f.held) (hex_in_line (to_be_bytes w32 f.id) (number_bytes f.id)) (hex_in_line f.held are))

pub datagram_in_line : (group bytes : List ℕ) → IsGroup group → IsBytes bytes → is_one_line (datagram_text group bytes) ≡ true
datagram_in_line group bytes is are =
    joined (codes "udp0 ") (group ++ 35 ∷ encode_upper bytes) refl
    (joined group (35 ∷ encode_upper bytes) (all_weaker is_address_byte (λ c. not (is_lf c)) address_byte group is.bytes) (hex_in_line bytes are))

-- ---- what a report names

pub sfi_in_line : (sfi : List ℕ) → IsSfi sfi → is_one_line sfi ≡ true
sfi_in_line sfi is =
    ap is_one_line (sym (take-append-drop 2 sfi))
    ∙ joined (take 2 sfi) (drop 2 sfi) (all_weaker is_capital (λ c. not (is_lf c)) capital (take 2 sfi) is.letters)
    (all_weaker is_digit (λ c. not (is_lf c)) address_digit (drop 2 sfi) is.digits)

pub report_in_line : (r : Report) → is_one_line (decimal r.rule) ≡ true → is_one_line (detail_text r.detail) ≡ true → is_one_line (report_text r) ≡ true
report_in_line r rule named = joined (codes "rule ") (decimal r.rule ++ detail_text r.detail) refl (joined (decimal r.rule) (detail_text r.detail) rule named)

-- ---- the line of an emit

pub report_line : (m : ℕ) (r : Report) (line : List ℕ) → m < 2 ^ 64 → line ≡ time_text m ++ report_text r → is_one_line line ≡ true → IsReportLine line
report_line m r line fits same one = record {
  one = one;
  word = ap second_word same ∙ word_behind m (codes "rule") (decimal r.rule ++ detail_text r.detail) fits refl;
}

pub whole_line : (time text old line : List ℕ) → old ≡ time → line ≡ old ++ text → is_one_line time ≡ true → is_one_line text ≡ true → is_one_line line ≡ true
whole_line time text old line is_time is_line first second =
    ap is_one_line (is_line ∙ ap (λ (x : List ℕ). x ++ text) is_time) ∙ joined time text first second
