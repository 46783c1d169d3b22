-- A sentence that is written is in the grammar, and is read back.
use Rattle.std.proofs.Common.{◌≡◌, ℕ, ◌/◌, ◌%◌, ◌<◌, ◌≤◌, List, [], ◌∷◌, ◌++◌, length, refl, ap, ◌∙◌, arith, append_assoc, length-append, inl}
use Rattle.std.specs.Prelude.{IsTrue, true, Ok, bit_xor}
use Rattle.std.specs.List.{fold, list_all}
use Rattle.std.specs.Char.{digit_value}
use Rattle.std.proofs.lemmas.Bool.{and_from, and_parts}
use Rattle.std.proofs.lemmas.Bool.Decides.{nat_tests}
use Rattle.std.proofs.lemmas.Grind.{widths}
use Rattle.std.proofs.lemmas.List.Folds.{list_all-append}
use Rattle.sentence_text.specs.Byte.{is_address_byte, is_body_byte}
use Rattle.sentence_text.specs.Reading.{read}
use Rattle.sentence_text.specs.Sentence.{SentenceParts, content, xor_of, capital_digit, ended, longest_written, sentence, IsAddress, IsBody, IsSentence}
use Rattle.sentence_text.proofs.Only.{content_passes, only}

pub digit_value-capital_digit : (n : ℕ) → n < 16 → digit_value (capital_digit n) ≡ n
digit_value-capital_digit n small = grind arith

is_address : (talker formatter : List ℕ) → length talker ≡ 2 → length formatter ≡ 3
    → IsTrue (list_all is_address_byte talker) → IsTrue (list_all is_address_byte formatter) → IsAddress (talker ++ formatter)
is_address talker formatter two three t f = record {
  least = omega (arith, length-append talker formatter);
  most = omega (arith, length-append talker formatter);
  bytes = list_all-append is_address_byte talker formatter ∙ and_from (list_all is_address_byte talker) (list_all is_address_byte formatter) t f;
}

-- the sum of bytes is one
sum_below : (sum : ℕ) (bytes : List ℕ) → sum < 256 → list_all is_body_byte bytes ≡ true → fold bit_xor sum bytes < 256
sum_below sum [] s h = s
sum_below sum (c ∷ cs) s h =
    let p = and_parts (is_body_byte c) (list_all is_body_byte cs) h in
    let small : c < 256 = grind (arith, nat_tests) in
    let next : bit_xor sum c < 256 = grind (arith, widths) in
    sum_below (bit_xor sum c) cs next p.1

pub record IsWritten (p : SentenceParts) : Type 0 where
  pub starts : p.start ≡ 36
  pub two : length p.talker ≡ 2
  pub three : length p.formatter ≡ 3
  pub talker_bytes : IsTrue (list_all is_address_byte p.talker)
  pub formatter_bytes : IsTrue (list_all is_address_byte p.formatter)
  pub body : IsBody p.body
  pub short : length (sentence p) ≤ longest_written

pub is_sentence : (p : SentenceParts) → IsWritten p → IsSentence p (sentence p)
is_sentence p w =
    let address = is_address p.talker p.formatter w.two w.three w.talker_bytes w.formatter_bytes in
    let sum = xor_of (content p) in
    let byte : sum < 256 = sum_below 0 (content p) (omega arith) (content_passes p address w.body) in
    let high : digit_value (capital_digit (sum / 16)) ≡ sum / 16 = digit_value-capital_digit (sum / 16) (omega arith) in
    let low : digit_value (capital_digit (sum % 16)) ≡ sum % 16 = digit_value-capital_digit (sum % 16) (omega arith) in
    record {
      starts = inl w.starts;
      talker = w.two;
      address = address;
      body = w.body;
      high = capital_digit (sum / 16);
      low = capital_digit (sum % 16);
      high_digit = omega (arith, high);
      low_digit = omega (arith, low);
      sum = omega (arith, high, low);
      spelled = refl;
      most = let short = w.short in omega (arith, short);
    }

pub read_back : (p : SentenceParts) → IsWritten p → read (sentence p) ≡ Ok p
read_back p w = only (sentence p) p (is_sentence p w)

-- what is begun, has its body and is ended is a sentence
pub written : (talker formatter body begun full new : List ℕ) → begun ≡ 36 ∷ talker ++ formatter → full ≡ begun ++ body → new ≡ ended full
    → new ≡ sentence (record { start = 36; talker = talker; formatter = formatter; body = body })
written talker formatter body begun full new b f n =
    n ∙ ap ended (f ∙ ap (λ (x : List ℕ). x ++ body) b ∙ ap (λ (x : List ℕ). 36 ∷ x) (append_assoc talker formatter body))
