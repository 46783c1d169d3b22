-- Computed: what is counted as said and as sent (IEC 61162-450; fast packets by canboat's tables).
use Rattle.std.proofs.Common.{refl}
use Rattle.history.specs.CounterCases.{EachGroupItsLines, EachMessageItsSequence}
use Rattle.history.proofs.Computed.{cases}

pub each_group_its_lines : EachGroupItsLines
unfolding cases
each_group_its_lines = refl

pub each_message_its_sequence : EachMessageItsSequence
unfolding cases
each_message_its_sequence = refl
