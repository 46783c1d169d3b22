-- What was told and what is still to be told make up the whole.
use Rattle.std.proofs.Common.{length}
use Rattle.slot_views.specs.Slots.{has_expired}
use Rattle.tag_block.specs.GroupAnswers.{ended_of}
use Rattle.gate_outbox.specs.Output.{most_told}
use Rattle.gate_outbox.proofs.Telling.{IsEnding, said_group}
use Rattle.row_traffic.proofs.network.groups.end_groups.Given as goal

abbrev pub decreases-loop-key : goal.decreases-loop-key
decreases-loop-key l = length l.groups.entries

abbrev pub invariant-loop-key : goal.invariant-loop-key
invariant-loop-key l = IsEnding most_told (has_expired l.moment) ended_of said_group l.initial.groups l.initial.out l.groups l.out
