-- Which whole number stands for a fraction n / d.
use Rattle.std.specs.Prelude.{ℕ, suc, ◌+◌, ◌*◌, ◌/◌, ◌≤◌, ℤ, pos, negsuc, neg_ℤ, Bool, true, false, ◌-ℤ◌, ◌*ℤ◌, unsigned_abs}

-- how far the whole number q is from n / d, in d-ths
abbrev pub distance : ℤ → ℕ → ℤ → ℕ
distance n d q = unsigned_abs (n -ℤ (q *ℤ pos d))

-- q is nearest to n / d, and of two equally near the one further from zero
pub record IsRound (n : ℤ) (d : ℕ) (q : ℤ) : Type 0 where
  pub near : 2 * distance n d q ≤ d
  pub further : (p : ℤ) → 2 * distance n d p ≤ d → unsigned_abs p ≤ unsigned_abs q

-- the same for numbers from zero on, by one division: halves go up
unfoldable pub nearest : ℕ → ℕ → ℕ
nearest n d = (2 * n + d) / (2 * d)

abbrev pub signed : Bool → ℕ → ℤ
signed true size = neg_ℤ (pos size)
signed false size = pos size

-- and by its sign for every whole number: halves go away from zero
abbrev pub round : ℤ → ℕ → ℤ
round (pos n) d = pos (nearest n d)
round (negsuc n) d = neg_ℤ (pos (nearest (suc n) d))
