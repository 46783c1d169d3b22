-- Numbers as if they were drawn by lot: a linear congruence modulo 2 ^ 64, of whose states all but the lowest 33 bits are given.
use Rattle.std.specs.Prelude.{ℕ, ◌+◌, ◌*◌, ◌/◌, ◌%◌, ◌^◌}

unfoldable pub next_state : ℕ → ℕ
next_state x = (x * 6364136223846793005 + 1442695040888963407) % 2 ^ 64

unfoldable pub number_in : ℕ → ℕ
number_in x = x / 2 ^ 33
