-- A clock in memory, as its calls see it.
use Rattle.std.specs.Prelude.{ℕ, zero, suc, ◌-◌, min, List, [], ◌∷◌, ◌++◌, length, slice_index, Option}

pub record MemTime : Type 0 where
  -- the readings that it gives
  pub script : List ℕ
  -- those that were taken, for as long as they are fewer than 2^64
  pub readings : Option (List ℕ)

-- The reading at a place: the last one is repeated, and there is 0 where there was none.
abbrev pub reading_at : List ℕ → ℕ → ℕ
reading_at script place = slice_index script (min place (length script - 1))

-- the first readings
abbrev pub first_readings : List ℕ → ℕ → List ℕ
first_readings script zero = []
first_readings script (suc count) = first_readings script count ++ reading_at script count ∷ []
