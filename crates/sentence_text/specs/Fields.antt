-- The fields of a body, in order.
use Rattle.std.specs.Prelude.{ℕ, zero, suc, Option, None, slice_get, List, [], ◌∷◌, ◌==◌, if◌then◌else◌}
use Rattle.std.specs.List.{before_first}

-- the bytes up to the next comma
abbrev pub field_at_front : List ℕ → List ℕ
field_at_front bytes = before_first (λ c. c == 44) bytes

-- each comma opens a field, which reaches up to the next
abbrev pub fields_of : List ℕ → List (List ℕ)
fields_of [] = []
fields_of (c ∷ cs) = if c == 44 then field_at_front cs ∷ fields_of cs else fields_of cs

-- fields are counted from 1
abbrev pub field_of : List ℕ → ℕ → Option (List ℕ)
field_of body zero = None
field_of body (suc n) = slice_get (fields_of body) n
