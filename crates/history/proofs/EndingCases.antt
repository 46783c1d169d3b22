-- Computed: how messages end that don't complete.
use Rattle.std.proofs.Common.{refl}
use Rattle.history.specs.EndingCases.{AllAtOnce, LeftBeforeWon, TakenAtOnce, AgainAtTheLimit}
use Rattle.history.proofs.Computed.{cases}

pub all_at_once : AllAtOnce
unfolding cases
all_at_once = refl

pub left_before_won : LeftBeforeWon
unfolding cases
left_before_won = refl

pub taken_at_once : TakenAtOnce
unfolding cases
taken_at_once = refl

pub again_at_the_limit : AgainAtTheLimit
unfolding cases
again_at_the_limit = refl
