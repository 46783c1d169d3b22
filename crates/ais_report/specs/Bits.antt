-- Numbers as bits, of which the highest is the first (ITU-R M.1371, 3.3.7).
use Rattle.std.specs.Prelude.{ℕ, zero, suc, ◌+◌, ◌*◌, Bool, true, false, ◌==◌, List, [], ◌∷◌}
use Rattle.std.specs.Int.{bit_at}

-- so many bits of a number: the lowest ones
abbrev pub bits_of : ℕ → ℕ → List Bool
bits_of zero n = []
bits_of (suc width) n = (bit_at n width == 1) ∷ bits_of width n

abbrev pub bit : Bool → ℕ
bit true = 1
bit false = 0

-- the number whose bits these are, behind those of n
abbrev pub number_after : ℕ → List Bool → ℕ
number_after n [] = n
number_after n (b ∷ bs) = number_after (2 * n + bit b) bs

abbrev pub number_of : List Bool → ℕ
number_of bits = number_after 0 bits
