-- The bytes that a sentence is made of.
use Rattle.std.specs.Prelude.{ℕ, Bool, ◌&&◌, ◌||◌, ◌==◌, not, nat_le}

abbrev pub is_capital : ℕ → Bool
is_capital c = nat_le 65 c && nat_le c 90

abbrev pub is_digit : ℕ → Bool
is_digit c = nat_le 48 c && nat_le c 57

abbrev pub is_address_byte : ℕ → Bool
is_address_byte c = is_capital c || is_digit c

-- `$`, `!`, `\` and `*`, which start or end a part of a line
abbrev pub is_delimiter : ℕ → Bool
is_delimiter c = c == 36 || c == 33 || c == 92 || c == 42

-- printable, a space and the comma between fields among them
abbrev pub is_body_byte : ℕ → Bool
is_body_byte c = nat_le 32 c && nat_le c 126 && not (is_delimiter c)

abbrev pub is_field_byte : ℕ → Bool
is_field_byte c = is_body_byte c && not (c == 44)
