-- What was told and what is still to be told make up the whole.
use Rattle.std.proofs.Common.{length}
use Rattle.report_rules.specs.Rules as rules
use Rattle.iso_transport.specs.Assembly.{is_addressed}
use Rattle.iso_transport.specs.Answers.{ended_of}
use Rattle.gate_outbox.specs.Output.{most_told}
use Rattle.gate_outbox.proofs.Telling.{IsEnding, said_session}
use Rattle.bus_messages.proofs.endings.drop_addressed.Given as goal

abbrev pub decreases-loop-ended : goal.decreases-loop-ended
decreases-loop-ended l = length l.sessions.entries

abbrev pub invariant-loop-ended : goal.invariant-loop-ended
invariant-loop-ended l = IsEnding most_told is_addressed ended_of (said_session rules.claim_lost) l.initial.sessions l.initial.out l.sessions l.out
