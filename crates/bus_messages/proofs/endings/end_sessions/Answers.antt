use Rattle.gate_outbox.proofs.Telling.{fewer, one_ended, ends_slots, ends_emits}
use Rattle.bus_messages.proofs.endings.end_sessions.Goals as goal

pub loop-ended-smaller : goal.loop-ended-smaller
loop-ended-smaller c = fewer c.loop-ended.invariant c.expire_one.ensures.answer c.expire_one.ensures.after c.in-Some.is

pub loop-ended-preserved : goal.loop-ended-preserved
loop-ended-preserved c =
    one_ended c.loop-ended.invariant c.expire_one.ensures.answer c.expire_one.ensures.after c.in-Some.is c.tell_overdue.ensures.emits

pub returns-clause-sessions : goal.returns-clause-sessions
returns-clause-sessions c = ends_slots c.loop-ended.invariant c.expire_one.ensures.answer c.expire_one.ensures.after c.in_default.is

pub returns-clause-emits : goal.returns-clause-emits
returns-clause-emits c = ends_emits c.loop-ended.invariant c.expire_one.ensures.answer c.expire_one.ensures.after c.in_default.is
