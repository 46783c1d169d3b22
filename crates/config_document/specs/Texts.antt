-- What texts say that stand for one value: NAMEs (ISO 11783-5), names of the network (IEC 61162-450), talkers (IEC 61162-1), and texts
-- for people.
use Rattle.std.specs.Prelude.{◌≡◌, ◌≤◌, IsTrue, ℕ, Bool, ◌&&◌, ◌==◌, nat_le, List, [], ◌∷◌, length, take, drop, Option, Some, None, Result, Ok, Err, if◌then◌else◌}
use Rattle.std.specs.Int.{from_be_bytes, w64}
use Rattle.std.specs.List.{list_all}
use Rattle.hex.specs.Hex.{decode_sized}
use Rattle.hex.specs.declared.error.FromHexError.{FromHexError}
use Rattle.n2k_id.specs.declared.name.Name.{Name}
use Rattle.sentence_text.specs.Byte.{is_address_byte, is_capital, is_digit}
use Rattle.config_document.specs.declared.texts.Talker.{Talker}
use Rattle.config_document.specs.declared.texts.ProductText.{ProductText}

abbrev name_of : Result (List ℕ) FromHexError → Option Name
name_of (Ok bytes) = Some (record { 0 = from_be_bytes w64 bytes })
name_of (Err fault) = None

-- a NAME in 16 hexadecimal digits of either case, as a number is written
abbrev pub name_in : List ℕ → Option Name
name_in text = name_of (decode_sized text 8)

-- two capital letters and four digits
abbrev pub is_sfi : List ℕ → Bool
is_sfi text = (length text == 6) && (list_all is_capital (take 2 text) && list_all is_digit (drop 2 text))

abbrev pub sfi_in : List ℕ → Option (List ℕ)
sfi_in text = if is_sfi text then Some text else None

-- four capital letters or digits
abbrev pub is_group : List ℕ → Bool
is_group text = (length text == 4) && list_all is_address_byte text

abbrev pub group_in : List ℕ → Option (List ℕ)
group_in text = if is_group text then Some text else None

-- two capital letters
abbrev pub talker_in : List ℕ → Option Talker
talker_in (a ∷ b ∷ []) = if is_capital a && is_capital b then Some (record { 0 = a ∷ b ∷ [] }) else None
talker_in text = None

pub record IsTalker (talker : List ℕ) : Type 0 where
  pub len : length talker ≡ 2
  pub letters : IsTrue (list_all is_capital talker)

-- from space to tilde
abbrev pub is_printable : ℕ → Bool
is_printable c = nat_le 32 c && nat_le c 126

pub record IsProductText (text : List ℕ) : Type 0 where
  pub fits : length text ≤ 32
  pub printable : IsTrue (list_all is_printable text)

-- at most 32 printable characters
abbrev pub product_text_in : List ℕ → Option ProductText
product_text_in text = if list_all is_printable text && nat_le (length text) 32 then Some (record { 0 = record { items = text } }) else None
