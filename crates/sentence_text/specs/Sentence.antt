-- What a sentence of IEC 61162-1 is, as a relation between its parts and all of its bytes.
use Rattle.std.specs.Prelude.{◌≡◌, ℕ, ◌+◌, ◌*◌, ◌/◌, ◌%◌, ◌<◌, ◌≤◌, ◌⊎◌, List, [], ◌∷◌, ◌++◌, length, drop, All, IsTrue, bit_xor, nat_lt, if◌then◌else◌}
use Rattle.std.specs.List.{flat_map, fold, list_all}
use Rattle.std.specs.Char.{digit_value}
use Rattle.sentence_text.specs.Byte.{is_address_byte, is_field_byte}

-- what a sentence says
pub record SentenceParts : Type 0 where
  -- `$` or `!`
  pub start : ℕ
  -- the first two characters of the address
  pub talker : List ℕ
  -- the others
  pub formatter : List ℕ
  -- the fields, each behind its comma
  pub body : List ℕ

-- the least and the most characters of an address
abbrev pub shortest_address : ℕ
shortest_address = 3

abbrev pub longest_address : ℕ
longest_address = 12

pub record IsAddress (address : List ℕ) : Type 0 where
  pub least : shortest_address ≤ length address
  pub most : length address ≤ longest_address
  pub bytes : IsTrue (list_all is_address_byte address)

abbrev pub body_of : List (List ℕ) → List ℕ
body_of fields = flat_map (λ field. 44 ∷ field) fields

-- any number of fields, each behind a comma
pub record IsBody (body : List ℕ) : Type 0 where
  pub fields : List (List ℕ)
  pub bytes : All (λ field. IsTrue (list_all is_field_byte field)) fields
  pub spelled : body ≡ body_of fields

-- the bytes between the start and `*`, over which the sum goes
abbrev pub content : SentenceParts → List ℕ
content parts = parts.talker ++ (parts.formatter ++ parts.body)

-- the bitwise exclusive or of all of them
abbrev pub xor_of : List ℕ → ℕ
xor_of bytes = fold bit_xor 0 bytes

-- the start, the content, `*`, two digits, CR and LF
abbrev pub spelling : SentenceParts → ℕ → ℕ → List ℕ
spelling parts high low = parts.start ∷ (content parts ++ 42 ∷ high ∷ low ∷ 13 ∷ 10 ∷ [])

-- the most bytes of a line that is read as a sentence, and of a sentence that is written (IEC 61162-1), CR and LF included
abbrev pub longest_line : ℕ
longest_line = 120

abbrev pub longest_written : ℕ
longest_written = 82

-- bytes is a sentence of these parts; its sum is two hexadecimal digits of either case
pub record IsSentence (parts : SentenceParts) (bytes : List ℕ) : Type 0 where
  pub starts : (parts.start ≡ 36) ⊎ (parts.start ≡ 33)
  pub talker : length parts.talker ≡ 2
  pub address : IsAddress (parts.talker ++ parts.formatter)
  pub body : IsBody parts.body
  pub high : ℕ
  pub low : ℕ
  pub high_digit : digit_value high < 16
  pub low_digit : digit_value low < 16
  pub sum : digit_value high * 16 + digit_value low ≡ xor_of (content parts)
  pub spelled : bytes ≡ spelling parts high low
  pub most : length bytes ≤ longest_line

-- a hexadecimal digit, with capital letters
abbrev pub capital_digit : ℕ → ℕ
capital_digit n = if nat_lt n 10 then 48 + n else 55 + n

-- the one sentence that is written of these parts
abbrev pub sentence : SentenceParts → List ℕ
sentence parts = let sum = xor_of (content parts) in spelling parts (capital_digit (sum / 16)) (capital_digit (sum % 16))

-- what is begun, up to its last field, with the sum of what stands behind its first byte: `*`, two digits, CR and LF
abbrev pub ended : List ℕ → List ℕ
ended begun = let sum = xor_of (drop 1 begun) in begun ++ 42 ∷ capital_digit (sum / 16) ∷ capital_digit (sum % 16) ∷ 13 ∷ 10 ∷ []

-- the parts of a sentence that is written: a body of fields divided by commas comes behind a comma
abbrev pub parts_of : List ℕ → List ℕ → List ℕ → SentenceParts
parts_of talker formatter body = record { start = 36; talker = talker; formatter = formatter; body = 44 ∷ body }
