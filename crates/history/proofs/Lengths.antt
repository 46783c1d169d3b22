-- Datagrams that are too long.
use Rattle.std.proofs.Common.{◌≡◌, ℕ, ◌<◌, nat_lt, true, List, ◌++◌, length, Err, refl, arith}
use Rattle.std.proofs.lemmas.Bool.Decides.{nat_tests}
use Rattle.datagram450.specs.declared.fault.DatagramFault.TheVariants as fault
use Rattle.datagram450.specs.Datagram as datagrams
use Rattle.history.specs.LengthLaws.{LongDatagrams}

lt_true : (a b : ℕ) → a < b → nat_lt a b ≡ true
lt_true a b l = grind (arith, nat_tests)

read_long : (body : List ℕ) → datagrams.longest_datagram < length (datagrams.header ++ body) → datagrams.read (datagrams.header ++ body) ≡ Err fault.Long
read_long body long = rw (lt_true datagrams.longest_datagram (length (datagrams.header ++ body)) long) refl

pub long_datagrams : LongDatagrams
long_datagrams c s h m body long = rw (read_long body long) refl
