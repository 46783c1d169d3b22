use Rattle.std.proofs.Common.{[], ◌∷◌, ap, ◌∙◌}
use Rattle.gate_outbox.specs.Output.{and_told, most_told}
use Rattle.gate_outbox.proofs.Telling.{fewer, one_ended, ends_slots, ends_emits}
use Rattle.bus_messages.proofs.endings.drop_addressed.Goals as goal

pub loop-ended-smaller : goal.loop-ended-smaller
loop-ended-smaller c = fewer c.loop-ended.invariant c.drop_addressed.ensures.answer c.drop_addressed.ensures.after c.in-Some.is

pub loop-ended-preserved : goal.loop-ended-preserved
loop-ended-preserved c =
    one_ended c.loop-ended.invariant c.drop_addressed.ensures.answer c.drop_addressed.ensures.after c.in-Some.is (c.tell.ensures ∙ ap (λ r. and_told most_told c.loop-ended.out (r ∷ [])) c.of_source.ensures)

pub returns-clause-sessions : goal.returns-clause-sessions
returns-clause-sessions c = ends_slots c.loop-ended.invariant c.drop_addressed.ensures.answer c.drop_addressed.ensures.after c.in_default.is

pub returns-clause-emits : goal.returns-clause-emits
returns-clause-emits c = ends_emits c.loop-ended.invariant c.drop_addressed.ensures.answer c.drop_addressed.ensures.after c.in_default.is
