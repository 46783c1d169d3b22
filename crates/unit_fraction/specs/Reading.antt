-- Which texts are decimals, and what is wrong with those that aren't.
use Rattle.std.specs.Prelude.{◌≡◌, ℕ, ◌+◌, ◌-◌, ◌<◌, ◌≤◌, Bool, ◌||◌, ◌==◌, nat_lt, List, [], ◌++◌, length, drop, slice_index, Option, Some, None, IsTrue, Result, Ok, Err, if◌then◌else◌}
use Rattle.std.specs.Char.{is_ascii_digit}
use Rattle.std.specs.List.{prefix_len, take_while}
use Rattle.std.specs.Str.{all_ascii_digits}
use Rattle.unit_fraction.specs.declared.decimal.Decimal.{Decimal}
use Rattle.unit_fraction.specs.declared.decimal.DecimalFault.{DecimalFault}
use Rattle.unit_fraction.specs.declared.decimal.DecimalFault.TheVariants.{Empty, Byte, Long}
use Rattle.unit_fraction.specs.Digits.{number, spelling}

abbrev pub part_of : Option (List ℕ) → List ℕ
part_of None = []
part_of (Some part) = part

-- text is a decimal: a minus or none, and at most twelve digits, of which at least one, with at most one point among,
-- before or behind them
pub record IsDecimal (d : Decimal) (text : List ℕ) : Type 0 where
  pub whole : List ℕ
  pub part : Option (List ℕ)
  pub spelled : text ≡ spelling d.negative whole part
  pub are_digits : IsTrue (all_ascii_digits (whole ++ part_of part))
  pub some : 0 < length (whole ++ part_of part)
  pub few : length (whole ++ part_of part) ≤ 12
  pub value : d.digits ≡ number (whole ++ part_of part)
  pub places : d.places ≡ length (part_of part)

-- ---- the same from left to right

abbrev pub is_negative : List ℕ → Bool
is_negative text = slice_index text 0 == 45

abbrev pub unsigned : List ℕ → List ℕ
unsigned text = if is_negative text then drop 1 text else text

-- the digits at the front, and what follows them
abbrev pub digits_of : List ℕ → List ℕ
digits_of text = take_while is_ascii_digit text

abbrev pub behind_digits : List ℕ → List ℕ
behind_digits text = drop (prefix_len is_ascii_digit text) text

-- the digits behind a point, and what follows them; all of the text where it has no point at its front
abbrev pub part_at : List ℕ → List ℕ
part_at text = if slice_index text 0 == 46 then digits_of (drop 1 text) else []

abbrev pub behind_part : List ℕ → List ℕ
behind_part text = if slice_index text 0 == 46 then behind_digits (drop 1 text) else text

-- a text in its pieces, up to the first byte that doesn't fit
pub record Cut : Type 0 where
  pub negative : Bool
  pub whole : List ℕ
  pub part : List ℕ
  pub left : List ℕ

abbrev pub cut : List ℕ → Cut
cut text = let rest = behind_digits (unsigned text) in record {
  negative = is_negative text;
  whole = digits_of (unsigned text);
  part = part_at rest;
  left = behind_part rest;
}

abbrev pub count_of : Cut → ℕ
count_of c = length c.whole + length c.part

abbrev pub decimal_of : Cut → Decimal
decimal_of c = record { negative = c.negative; digits = number (c.whole ++ c.part); places = length c.part }

-- of a text of this length: the decimal, or the first fault in the order of `DecimalFault`
abbrev pub read_cut : ℕ → Cut → Result Decimal DecimalFault
read_cut len c = if len == 0 then Err Empty
    else if nat_lt 0 (length c.left) || (count_of c == 0) then Err (Byte (len - length c.left))
    else if nat_lt 12 (count_of c) then Err Long
    else Ok (decimal_of c)

unfoldable pub read : List ℕ → Result Decimal DecimalFault
read text = read_cut (length text) (cut text)
