-- Hexadecimal digits by their values.
use Rattle.std.specs.Prelude.{ℕ, ◌+◌, ◌*◌, List, [], ◌∷◌}

-- the bytes of the values of digits, two a byte, the higher half first
abbrev pub paired : List ℕ → List ℕ
paired [] = []
paired (value ∷ []) = []
paired (high ∷ low ∷ values) = (high * 16 + low) ∷ paired values
