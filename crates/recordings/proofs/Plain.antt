-- The bytes of recorded lines: none ends a line, and none is an `l`, so no line holds the word of a report.
use Rattle.std.proofs.Common.{◌≡◌, ℕ, ◌^◌, ◌<◌, Bool, true, false, not, List, [], ◌∷◌, ◌++◌, drop, length, take, refl, sym, ap, ◌∙◌, append_assoc, arith}
use Rattle.std.specs.Prelude.{◌&&◌, ◌||◌, ◌==◌, codes, nat_eq}
use Rattle.std.specs.Char.{is_ascii_digit, is_ascii_hexdigit}
use Rattle.std.specs.Int.{w32, to_be_bytes}
use Rattle.std.specs.List.{list_all, prefix_len, starts_with}
use Rattle.std.specs.Cmp.Lexicographic.{same_text}
use Rattle.std.proofs.lemmas.Bool.{and_parts}
use Rattle.std.proofs.lemmas.List.{take-append-drop}
use Rattle.hex.specs.Hex.{IsBytes, encode_upper}
use Rattle.hex.proofs.HexLemmas.{decode_of-encode_upper}
use Rattle.sentence_text.proofs.Bytes.{all_append, all_parts, all_weaker}
use Rattle.unit_fraction.specs.Text.{decimal_text}
use Rattle.unit_fraction.proofs.Text.{has_form}
use Rattle.gate_events.specs.Event as capture
use Rattle.gate_events.specs.Event.{Seen, moment_in}
use Rattle.n2k_id.specs.Frame.{BusFrame}
use Rattle.capture_text.specs.EventLaws.{Fits}
use Rattle.capture_text.specs.Lines.{is_one_line}
use Rattle.capture_text.specs.Reading.{is_no_space, second_word}
use Rattle.capture_text.specs.Writing.{datagram_text, frame_text, start_mark, time_text}
use Rattle.capture_text.proofs.Again.{number_bytes}
use Rattle.capture_text.proofs.Data.{written_digits}
use Rattle.capture_text.proofs.Numbers.{all_digits}
use Rattle.gateway_commands.specs.Turns.{event_line, received, start_line}
use Rattle.recordings.specs.Separation.{is_report, is_rule}

-- neither an LF or a CR nor an `l`
abbrev pub is_plain : ℕ → Bool
is_plain c = not (c == 10) && (not (c == 13) && not (c == 108))

abbrev pub IsPlain : List ℕ → Type 0
IsPlain line = list_all is_plain line ≡ true

plain_digit : (c : ℕ) → is_ascii_digit c ≡ true → is_plain c ≡ true
plain_digit c h = grind arith

plain_hexdigit : (c : ℕ) → is_ascii_hexdigit c ≡ true → is_plain c ≡ true
plain_hexdigit c h = grind arith

-- ---- what is written

plain_time : (m : ℕ) → m < 10 ^ 16 → IsPlain (time_text m)
plain_time m early =
    let form = has_form false m 6 (omega arith) in
    let digits = all_parts is_ascii_digit form.whole form.part (all_digits (form.whole ++ form.part) ∙ form.are_digits) in
    let whole = all_weaker is_ascii_digit is_plain plain_digit form.whole digits.0 in
    let part = all_weaker is_ascii_digit is_plain plain_digit form.part digits.1 in
    all_append is_plain (decimal_text false m 6) (codes ") ")
    (ap (λ (x : List ℕ). list_all is_plain x) form.spelled ∙ all_append is_plain form.whole (46 ∷ form.part) whole part)
    refl

plain_hex : (bytes : List ℕ) → IsBytes bytes → IsPlain (encode_upper bytes)
plain_hex bytes are =
    all_weaker is_ascii_hexdigit is_plain plain_hexdigit (encode_upper bytes) (written_digits (encode_upper bytes) bytes (decode_of-encode_upper bytes are))

plain_frame : (f : BusFrame) → IsBytes f.held → IsPlain (frame_text f)
plain_frame f are =
    let id = encode_upper (to_be_bytes w32 f.id) in
    all_append is_plain (codes "can0 ") (id ++ 35 ∷ encode_upper f.held) refl
    (all_append is_plain id (35 ∷ encode_upper f.held) (plain_hex (to_be_bytes w32 f.id) (number_bytes f.id)) (plain_hex f.held are))

plain_datagram : (bytes : List ℕ) → IsBytes bytes → IsPlain (datagram_text received bytes)
plain_datagram bytes are = all_append is_plain (codes "udp0 RECV#") (encode_upper bytes) refl (plain_hex bytes are)

pub plain_event : (e : Seen) → Fits e → moment_in e < 10 ^ 16 → IsPlain (event_line e)
plain_event (capture.frame m f) fits early = all_append is_plain (time_text m) (frame_text f) (plain_time m early) (plain_frame f fits.2)
plain_event (capture.datagram m bytes) fits early = all_append is_plain (time_text m) (datagram_text received bytes) (plain_time m early) (plain_datagram bytes fits.1)
plain_event (capture.tick m) fits early = all_append is_plain (time_text m) (codes "tick") (plain_time m early) refl

pub plain_start : (m : ℕ) → m < 10 ^ 16 → IsPlain (start_line m)
plain_start m early = all_append is_plain (event_line (capture.tick m)) start_mark (plain_event (capture.tick m) tt early) refl

-- ---- what that tells

one_byte : (c : ℕ) → is_plain c ≡ true → not (c == 10) ≡ true
one_byte c h = grind arith

pub plain_is_one_line : (line : List ℕ) → IsPlain line → is_one_line line ≡ true
plain_is_one_line line plain = all_weaker is_plain (λ c. not (c == 10)) one_byte line plain

-- a word with which a plain line begins is plain
word_is_plain : (word line : List ℕ) → IsPlain line → starts_with nat_eq line word ≡ true → IsPlain word
word_is_plain word line plain is =
    let n = length word in
    let front = all_parts is_plain (take n line) (drop n line) (ap (λ (x : List ℕ). list_all is_plain x) (take-append-drop n line) ∙ plain) in
    ap (λ (x : List ℕ). list_all is_plain x) (same_text word (take n line) (sym is)) ∙ front.0

no_word : (line : List ℕ) → IsPlain line → starts_with nat_eq line (codes " rule ") ≡ false
no_word line plain = by (starts_with nat_eq line (codes " rule ")) refl
  where
    by : (b : Bool) → starts_with nat_eq line (codes " rule ") ≡ b → b ≡ false
    by false is = refl
    by true is = let wrong : false ≡ true = word_is_plain (codes " rule ") line plain is in absurd (cc)

pub plain_is_no_report : (line : List ℕ) → IsPlain line → is_report line ≡ false
plain_is_no_report [] plain = refl
plain_is_no_report (c ∷ line) plain =
    ap (λ (b : Bool). b || is_report line) (no_word (c ∷ line) plain)
    ∙ plain_is_no_report line (and_parts (is_plain c) (list_all is_plain line) plain).1

-- so is its second word, which isn't that of a report
no_rule : (line : List ℕ) → IsPlain line → (b : Bool) → is_rule line ≡ b → b ≡ false
no_rule line plain false is = refl
no_rule line plain true is =
    let n = prefix_len is_no_space line in
    let behind = all_parts is_plain (take n line) (drop n line) (ap (λ (x : List ℕ). list_all is_plain x) (take-append-drop n line) ∙ plain) in
    let rest = drop n line in
    let words = all_parts is_plain (take 1 rest) (drop 1 rest) (ap (λ (x : List ℕ). list_all is_plain x) (take-append-drop 1 rest) ∙ behind.1) in
    let from = drop 1 rest in
    let k = prefix_len is_no_space from in
    let word = all_parts is_plain (take k from) (drop k from) (ap (λ (x : List ℕ). list_all is_plain x) (take-append-drop k from) ∙ words.1) in
    let wrong : false ≡ true = ap (λ (x : List ℕ). list_all is_plain x) (sym (same_text (second_word line) (codes "rule") (sym is))) ∙ word.0 in
    absurd (cc)

pub plain_is_no_rule : (line : List ℕ) → IsPlain line → is_rule line ≡ false
plain_is_no_rule line plain = no_rule line plain (is_rule line) refl

-- ---- a report

or_true : (b : Bool) → (b || true) ≡ true
or_true true = refl
or_true false = refl

report_behind : (front text : List ℕ) → is_report text ≡ true → is_report (front ++ text) ≡ true
report_behind [] text is = is
report_behind (c ∷ front) text is =
    let word = starts_with nat_eq (c ∷ (front ++ text)) (codes " rule ") in
    ap (λ (b : Bool). word || b) (report_behind front text is) ∙ or_true word

-- a time and the word behind it
pub times_report : (m : ℕ) (rest : List ℕ) → is_report (time_text m ++ (codes "rule " ++ rest)) ≡ true
times_report m rest =
    let d = decimal_text false m 6 in
    let word = codes "rule " ++ rest in
    ap (λ (x : List ℕ). is_report (40 ∷ x)) (append_assoc d (41 ∷ 32 ∷ []) word)
    ∙ report_behind (40 ∷ d) (41 ∷ 32 ∷ word) refl
