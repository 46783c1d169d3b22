-- Computed: how many packets a sender may send before it waits (ISO 11783-3, 5.10.3).
use Rattle.std.proofs.Common.{refl}
use Rattle.history.specs.WindowCases.{EachWindow, WithinAWindow}
use Rattle.history.proofs.Computed.{cases}

pub each_window : EachWindow
unfolding cases
each_window = (refl, refl, refl, refl, refl, refl, refl, refl, refl, refl)

pub within_a_window : WithinAWindow
unfolding cases
within_a_window = refl
