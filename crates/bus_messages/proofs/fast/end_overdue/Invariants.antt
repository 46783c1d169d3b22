-- What was told and what is still to be told make up the whole.
use Rattle.std.proofs.Common.{length}
use Rattle.report_rules.specs.Rules as rules
use Rattle.slot_views.specs.Slots.{has_expired}
use Rattle.fast_packet.specs.Answers.{ended_of}
use Rattle.gate_outbox.proofs.Telling.{IsEnding, said_fast}
use Rattle.bus_messages.proofs.fast.end_overdue.Given as goal

abbrev pub decreases-loop-key : goal.decreases-loop-key
decreases-loop-key g l = length l.fast.entries

abbrev pub invariant-loop-key : goal.invariant-loop-key
invariant-loop-key g l = IsEnding g.row.ROOM (has_expired l.moment) ended_of (said_fast rules.expired) l.initial.fast l.initial.out l.fast l.out
