-- Computed: the transport protocol's rules (ISO 11783-3, 5.10).
use Rattle.std.proofs.Common.{refl}
use Rattle.history.specs.SessionCases.{OutOfOrder, ShortAndOutOfOrder, GivenUp, BegunTooEarly, BegunAgain}
use Rattle.history.proofs.Computed.{cases}

pub out_of_order : OutOfOrder
unfolding cases
out_of_order = refl

pub short_and_out_of_order : ShortAndOutOfOrder
unfolding cases
short_and_out_of_order = refl

pub given_up : GivenUp
unfolding cases
given_up = refl

pub begun_too_early : BegunTooEarly
unfolding cases
begun_too_early = refl

pub begun_again : BegunAgain
unfolding cases
begun_again = refl
