-- Computed: changes of the gateway's own address.
use Rattle.std.proofs.Common.{refl}
use Rattle.bridge.specs.AddressCases.{CommandIsToldNext, LossIsTold, MoveIsTold}
use Rattle.history.proofs.Computed.{cases}

pub move_is_told : MoveIsTold
unfolding cases
move_is_told = refl

pub loss_is_told : LossIsTold
unfolding cases
loss_is_told = refl

pub command_is_told_next : CommandIsToldNext
unfolding cases
command_is_told_next = refl
