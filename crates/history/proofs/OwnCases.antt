-- Computed: the gateway's own address (ISO 11783-5), and what is for it.
use Rattle.std.proofs.Common.{refl}
use Rattle.history.specs.OwnCases.{CommandedAway, ThereAndBack, ByWayOfNone, AskedAfterAMove, AskedWithoutAddress, ReadyAfterACommand, DefendedReady, OwnNameElsewhere, Malformed}
use Rattle.history.proofs.Computed.{cases}

pub commanded_away : CommandedAway
unfolding cases
commanded_away = refl

pub there_and_back : ThereAndBack
unfolding cases
there_and_back = refl

pub by_way_of_none : ByWayOfNone
unfolding cases
by_way_of_none = refl

pub asked_after_a_move : AskedAfterAMove
unfolding cases
asked_after_a_move = refl

pub asked_without_address : AskedWithoutAddress
unfolding cases
asked_without_address = refl

pub ready_after_a_command : ReadyAfterACommand
unfolding cases
ready_after_a_command = refl

pub defended_ready : DefendedReady
unfolding cases
defended_ready = refl

pub own_name_elsewhere : OwnNameElsewhere
unfolding cases
own_name_elsewhere = refl

pub malformed : Malformed
unfolding cases
malformed = refl
