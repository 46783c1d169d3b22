-- Computed: what is emitted of the transport protocol.
use Rattle.std.proofs.Common.{refl}
use Rattle.history.specs.TransportCases.{Granted, WrongSize, TooEarly, NoRoom, Broadcast, CutOff, GrantedOnce}
use Rattle.history.proofs.Computed.{cases}

pub granted : Granted
unfolding cases
granted = refl

pub wrong_size : WrongSize
unfolding cases
wrong_size = refl

pub too_early : TooEarly
unfolding cases
too_early = refl

pub no_room : NoRoom
unfolding cases
no_room = refl

pub broadcast : Broadcast
unfolding cases
broadcast = refl

pub cut_off : CutOff
unfolding cases
cut_off = refl

pub granted_once : GrantedOnce
unfolding cases
granted_once = refl
