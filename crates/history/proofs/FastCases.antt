-- Computed: what is emitted of fast packets.
use Rattle.std.proofs.Common.{refl}
use Rattle.history.specs.FastCases.{InTurn, JustInTime, TooLate, NoRoom, WrongLengths, SentTwice, OutOfOrder, BegunAgain, Longest}
use Rattle.history.proofs.Computed.{cases}

pub in_turn : InTurn
unfolding cases
in_turn = refl

pub just_in_time : JustInTime
unfolding cases
just_in_time = refl

pub too_late : TooLate
unfolding cases
too_late = refl

pub no_room : NoRoom
unfolding cases
no_room = refl

pub wrong_lengths : WrongLengths
unfolding cases
wrong_lengths = refl

pub sent_twice : SentTwice
unfolding cases
sent_twice = refl

pub out_of_order : OutOfOrder
unfolding cases
out_of_order = refl

pub begun_again : BegunAgain
unfolding cases
begun_again = refl

pub longest : Longest
unfolding cases
longest = refl
