-- Computed: heartbeats.
use Rattle.std.proofs.Common.{refl}
use Rattle.datagram450.specs.Datagram.{sentence_datagram}
use Rattle.bridge.specs.BeatCases.{EachOnItsGrid, NoAddressIsTold, NotReadyNotCounted, SilentRowIsTold}
use Rattle.history.proofs.Computed.{cases}

pub each_on_its_grid : EachOnItsGrid
unfolding cases sentence_datagram
each_on_its_grid = refl

pub not_ready_not_counted : NotReadyNotCounted
unfolding cases
not_ready_not_counted = refl

pub no_address_is_told : NoAddressIsTold
unfolding cases sentence_datagram
no_address_is_told = refl

pub silent_row_is_told : SilentRowIsTold
unfolding cases sentence_datagram
silent_row_is_told = refl
