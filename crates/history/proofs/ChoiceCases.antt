-- Computed: whose messages are said.
use Rattle.std.proofs.Common.{refl}
use Rattle.history.specs.ChoiceCases.{OneHeading, FirstOfTwo, Short}
use Rattle.history.proofs.Computed.{cases}

pub one_heading : OneHeading
unfolding cases
one_heading = refl

pub first_of_two : FirstOfTwo
unfolding cases
first_of_two = refl

pub short : Short
unfolding cases
short = refl
