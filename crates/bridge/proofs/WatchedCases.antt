-- Computed: a row under watch.
use Rattle.std.proofs.Common.{refl}
use Rattle.datagram450.specs.Datagram.{sentence_datagram}
use Rattle.bridge.specs.WatchedCases.{SilenceIsTold}
use Rattle.history.proofs.Computed.{cases}

pub silence_is_told : SilenceIsTold
unfolding cases sentence_datagram
silence_is_told = refl
