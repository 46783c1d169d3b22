-- How many frames a message has.
use Rattle.std.proofs.Common.{◌≡◌, ℕ, ◌+◌, ◌/◌, nat_le, Bool, true, false, refl, arith}
use Rattle.std.proofs.lemmas.Bool.{leb-true, leb-false}
use Rattle.fast_packet.specs.FastRuns.{need_of}

need_by : (len : ℕ) (b : Bool) → nat_le len 6 ≡ b → 1 + len / 7 ≡ need_of len
need_by len true small = let few = leb-true len 6 small in rw small (omega (arith, few))
need_by len false large = let many = leb-false len 6 large in rw large (omega (arith, many))

-- one, and one more for each seven bytes
pub need_is : (len : ℕ) → 1 + len / 7 ≡ need_of len
need_is len = need_by len (nat_le len 6) refl
