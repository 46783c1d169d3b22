-- Computed: what datagrams from the network give.
use Rattle.std.proofs.Common.{refl}
use Rattle.history.specs.NetCases.{SecondOfThree, NoHeader, Moved, HalfAGroup, NotHeard, EarlyAfterMove, NoRoom, RmcWithoutDbt, DbtWithoutRmc}
use Rattle.history.proofs.Computed.{cases}

pub second_of_three : SecondOfThree
unfolding cases
second_of_three = refl

pub no_header : NoHeader
unfolding cases
no_header = refl

pub moved : Moved
unfolding cases
moved = refl

pub half_a_group : HalfAGroup
unfolding cases
half_a_group = refl

pub not_heard : NotHeard
unfolding cases
not_heard = refl

pub early_after_move : EarlyAfterMove
unfolding cases
early_after_move = refl

pub no_room : NoRoom
unfolding cases
no_room = refl

pub rmc_without_dbt : RmcWithoutDbt
unfolding cases
rmc_without_dbt = refl

pub dbt_without_rmc : DbtWithoutRmc
unfolding cases
dbt_without_rmc = refl
