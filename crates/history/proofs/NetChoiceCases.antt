-- Computed: which source of the network is sent on (each reading counts, sent on or not).
use Rattle.std.proofs.Common.{refl}
use Rattle.history.specs.NetChoiceCases.{FirstListed, HeardWhileSilent, HeardBeforeReady, NothingToSay, SameDatagram}
use Rattle.history.proofs.Computed.{cases}

pub first_listed : FirstListed
unfolding cases
first_listed = refl

pub heard_while_silent : HeardWhileSilent
unfolding cases
heard_while_silent = refl

pub heard_before_ready : HeardBeforeReady
unfolding cases
heard_before_ready = refl

pub nothing_to_say : NothingToSay
unfolding cases
nothing_to_say = refl

pub same_datagram : SameDatagram
unfolding cases
same_datagram = refl
