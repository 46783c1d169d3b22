-- The two names of IEC 61162-450: who speaks, and to which transmission group.
use Rattle.std.specs.Prelude.{◌≡◌, ℕ, List, length, take, drop, IsTrue}
use Rattle.std.specs.List.{list_all}
use Rattle.sentence_text.specs.Byte.{is_capital, is_digit, is_address_byte}

-- a system function identifier: two capital letters and four digits
pub record IsSfi (text : List ℕ) : Type 0 where
  pub len : length text ≡ 6
  pub letters : IsTrue (list_all is_capital (take 2 text))
  pub digits : IsTrue (list_all is_digit (drop 2 text))

-- a transmission group: four capital letters or digits
pub record IsGroup (text : List ℕ) : Type 0 where
  pub len : length text ≡ 4
  pub bytes : IsTrue (list_all is_address_byte text)
