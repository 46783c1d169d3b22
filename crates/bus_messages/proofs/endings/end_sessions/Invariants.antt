-- What was told and what is still to be told make up the whole.
use Rattle.std.proofs.Common.{length}
use Rattle.slot_views.specs.Slots.{has_expired}
use Rattle.iso_transport.specs.Answers.{ended_of}
use Rattle.bus_messages.specs.Overdue.{overdue_session}
use Rattle.gate_outbox.specs.Output.{most_told}
use Rattle.gate_outbox.proofs.Telling.{IsEnding}
use Rattle.bus_messages.proofs.endings.end_sessions.Given as goal

abbrev pub decreases-loop-ended : goal.decreases-loop-ended
decreases-loop-ended l = length l.sessions.entries

abbrev pub invariant-loop-ended : goal.invariant-loop-ended
invariant-loop-ended l = IsEnding most_told (has_expired l.moment) ended_of (overdue_session l.own) l.initial.sessions l.initial.out l.sessions l.out
