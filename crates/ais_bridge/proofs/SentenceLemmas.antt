-- The report of a ship is said in a sentence: an encapsulated one (IEC 61162-1, VDM) is one as well.
use Rattle.std.proofs.Common.{◌≡◌, ℕ, ◌/◌, ◌%◌, ◌<◌, ◌≤◌, Bool, true, false, List, [], ◌∷◌, ◌++◌, All, length, length-append, refl, subst, inr, arith}
use Rattle.std.specs.Prelude.{Result, Ok, Err, IsTrue, bit_xor, nat_lt, if◌then◌else◌, ◌==◌}
use Rattle.std.specs.List.{fold, list_all}
use Rattle.std.proofs.lemmas.Bool.{and_from, and_parts}
use Rattle.std.proofs.lemmas.Bool.Decides.{nat_tests}
use Rattle.std.proofs.lemmas.Grind.{widths}
use Rattle.std.proofs.lemmas.List.Elements.{All-nil, All-cons}
use Rattle.sentence_text.specs.Byte.{is_body_byte, is_field_byte}
use Rattle.sentence_text.specs.Sentence.{IsAddress, IsBody, IsSentence, content, xor_of, capital_digit}
use Rattle.sentence_text.proofs.Only.{content_passes}
use Rattle.sentence_text.proofs.Spelling.{digit_value-capital_digit}
use Rattle.ais_report.specs.Armour.{armour_of, character, characters}
use Rattle.ais_report.specs.Bits.{bit, number_of}
use Rattle.ais_report.specs.Converted.{channel, is_outside, least_bytes, report_in, transceiver}
use Rattle.ais_report.specs.Fields.{ais_bits}
use Rattle.ais_report.specs.declared.report.AisFault.{AisFault}
use Rattle.ais_report.specs.declared.report.AisFault.TheVariants.{Short, Outside}
use Rattle.ais_report.specs.declared.report.AisReport.{AisReport}
use Rattle.ais_report.proofs.ReadLemmas.{length_armour}
use Rattle.ais_bridge.specs.Promises.{IsSaid, ReportsAreSaid}
use Rattle.ais_bridge.specs.Reports.{report_parts, report_sentence}

-- ---- the report's characters

six_below : (a b c d e f : Bool) → number_of (a ∷ b ∷ c ∷ d ∷ e ∷ f ∷ []) < 64
six_below a b c d e f =
    let one : (x : Bool) → bit x ≤ 1 = at_most in
    omega (arith, one a, one b, one c, one d, one e, one f)
  where
    at_most : (x : Bool) → bit x ≤ 1
    at_most true = omega arith
    at_most false = omega arith

character_byte : (n : ℕ) → n < 64 → is_field_byte (character n) ≡ true
character_byte n below = grind (arith, nat_tests)

abbrev AreBytes : List ℕ → Type 0
AreBytes text = list_all is_field_byte text ≡ true

characters_bytes : (bs : List Bool) → AreBytes (characters bs)
characters_bytes [] = refl
characters_bytes (a ∷ []) = refl
characters_bytes (a ∷ b ∷ []) = refl
characters_bytes (a ∷ b ∷ c ∷ []) = refl
characters_bytes (a ∷ b ∷ c ∷ d ∷ []) = refl
characters_bytes (a ∷ b ∷ c ∷ d ∷ e ∷ []) = refl
characters_bytes (a ∷ b ∷ c ∷ d ∷ e ∷ f ∷ bs) =
    and_from (is_field_byte (character (number_of (a ∷ b ∷ c ∷ d ∷ e ∷ f ∷ [])))) (list_all is_field_byte (characters bs))
    (character_byte (number_of (a ∷ b ∷ c ∷ d ∷ e ∷ f ∷ [])) (six_below a b c d e f)) (characters_bytes bs)

armour_bytes : (r : AisReport) → AreBytes (armour_of r)
unfolding armour_of
armour_bytes r = characters_bytes (ais_bits r)

-- ---- the sentence

-- the sum of bytes is one
sum_below : (sum : ℕ) (bytes : List ℕ) → sum < 256 → list_all is_body_byte bytes ≡ true → fold bit_xor sum bytes < 256
sum_below sum [] s h = s
sum_below sum (c ∷ cs) s h =
    let p = and_parts (is_body_byte c) (list_all is_body_byte cs) h in
    let small : c < 256 = grind (arith, nat_tests) in
    let next : bit_xor sum c < 256 = grind (arith, widths) in
    sum_below (bit_xor sum c) cs next p.1

abbrev IsField : List ℕ → Type 0
IsField field = IsTrue (list_all is_field_byte field)

abbrev fields_in : AisReport × ℕ → List (List ℕ)
fields_in x = (49 ∷ []) ∷ (49 ∷ []) ∷ [] ∷ (x.1 ∷ []) ∷ armour_of x.0 ∷ (48 ∷ []) ∷ []

are_fields : (x : AisReport × ℕ) → is_field_byte x.1 ≡ true → All IsField (fields_in x)
are_fields x letter =
    let first : IsField (x.1 ∷ []) = and_from (is_field_byte x.1) true letter refl in
    let last : List (List ℕ) = (48 ∷ []) ∷ [] in
    let text : List (List ℕ) = armour_of x.0 ∷ last in
    let channel : List (List ℕ) = (x.1 ∷ []) ∷ text in
    let number : List (List ℕ) = [] ∷ channel in
    let total : List (List ℕ) = (49 ∷ []) ∷ number in
    All-cons IsField (49 ∷ []) total refl
    (All-cons IsField (49 ∷ []) number refl
    (All-cons IsField [] channel refl
    (All-cons IsField (x.1 ∷ []) text first (All-cons IsField (armour_of x.0) last (armour_bytes x.0) (All-cons IsField (48 ∷ []) [] refl (All-nil IsField))))))

report_body : (x : AisReport × ℕ) → is_field_byte x.1 ≡ true → IsBody (report_parts x).body
report_body x letter = record { fields = fields_in x; bytes = are_fields x letter; spelled = refl }

report_address : (x : AisReport × ℕ) → IsAddress ((report_parts x).talker ++ (report_parts x).formatter)
report_address x = record { least = omega arith; most = omega arith; bytes = refl }

report_length : (x : AisReport × ℕ) → length (report_sentence x) ≡ 49
report_length x = let text = length_armour x.0 (armour_of x.0) refl in simp length-append (omega (arith, text))

is_sentence : (x : AisReport × ℕ) → is_field_byte x.1 ≡ true → IsSentence (report_parts x) (report_sentence x)
is_sentence x letter =
    let parts = report_parts x in
    let sum = xor_of (content parts) in
    let byte : sum < 256 = sum_below 0 (content parts) (omega arith) (content_passes parts (report_address x) (report_body x letter)) in
    let high = digit_value-capital_digit (sum / 16) (omega arith) in
    let low = digit_value-capital_digit (sum % 16) (omega arith) in
    record {
      starts = inr refl;
      talker = refl;
      address = report_address x;
      body = report_body x letter;
      high = capital_digit (sum / 16);
      low = capital_digit (sum % 16);
      high_digit = omega (arith, high);
      low_digit = omega (arith, low);
      sum = omega (arith, high, low);
      spelled = refl;
      most = omega (arith, report_length x);
    }

-- ---- the report of a payload

channel_letter : (payload : List ℕ) → is_field_byte (channel payload) ≡ true
channel_letter payload = by (transceiver payload == 0)
  where
    by : (b : Bool) → is_field_byte (if b then 65 else 66) ≡ true
    by true = refl
    by false = refl

said_with : (x : AisReport × ℕ) → is_field_byte x.1 ≡ true → IsSaid x
said_with x letter = record { is_sentence = is_sentence x letter; short = omega (arith, report_length x) }

abbrev given : AisReport × ℕ → Result (AisReport × ℕ) AisFault
given x = Ok x

same_given : (x y : AisReport × ℕ) → given x ≡ given y → x ≡ y
same_given x y e = cc

pub reports_are_said : ReportsAreSaid
reports_are_said payload x is = by (nat_lt (length payload) least_bytes) (is_outside payload) is
  where
    by : (short outside : Bool) → (if short then Err Short else if outside then Err Outside else given (report_in payload, channel payload)) ≡ given x → IsSaid x
    by true outside e = absurd cc
    by false true e = absurd cc
    by false false e =
        subst IsSaid (same_given (report_in payload, channel payload) x e) (said_with (report_in payload, channel payload) (channel_letter payload))
