-- Computed: further quantities beside the gateway.
use Rattle.std.proofs.Common.{refl}
use Rattle.datagram450.specs.Datagram.{sentence_datagram}
use Rattle.quantities.specs.Told.{entries}
use Rattle.further_bridge.specs.FurtherOut.{value_datagram}
use Rattle.history.proofs.Computed.{cases}
use Rattle.bridge.specs.FurtherCases.{LinesAreCounted, FirstOfTwoIsSaid, SaidOnceMore, SeveralAreSaid, SeaGivesWay, EnginesAreNumbered}

pub lines_are_counted : LinesAreCounted
unfolding cases entries sentence_datagram value_datagram
lines_are_counted = refl

pub first_of_two_is_said : FirstOfTwoIsSaid
unfolding cases entries sentence_datagram value_datagram
first_of_two_is_said = refl

pub said_once_more : SaidOnceMore
unfolding cases entries sentence_datagram value_datagram
said_once_more = refl

pub several_are_said : SeveralAreSaid
unfolding cases entries sentence_datagram value_datagram
several_are_said = refl

pub sea_gives_way : SeaGivesWay
unfolding cases entries sentence_datagram value_datagram
sea_gives_way = refl

pub engines_are_numbered : EnginesAreNumbered
unfolding cases entries sentence_datagram value_datagram
engines_are_numbered = refl
