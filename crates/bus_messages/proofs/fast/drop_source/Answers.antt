use Rattle.std.proofs.Common.{[], ◌∷◌, ap, ◌∙◌}
use Rattle.gate_outbox.specs.Output.{and_told}
use Rattle.gate_outbox.proofs.Telling.{fewer, one_ended, ends_slots, ends_emits}
use Rattle.bus_messages.proofs.fast.drop_source.Goals as goal

pub loop-key-smaller : goal.loop-key-smaller
loop-key-smaller g c = fewer c.loop-key.invariant c.drop_source.ensures.answer c.drop_source.ensures.after c.in-Some.is

pub loop-key-preserved : goal.loop-key-preserved
loop-key-preserved g c =
    one_ended c.loop-key.invariant c.drop_source.ensures.answer c.drop_source.ensures.after c.in-Some.is (c.tell.ensures ∙ ap (λ r. and_told g.row.ROOM c.loop-key.out (r ∷ [])) c.of_source.ensures)

pub returns-clause-fast : goal.returns-clause-fast
returns-clause-fast g c = ends_slots c.loop-key.invariant c.drop_source.ensures.answer c.drop_source.ensures.after c.in_default.is

pub returns-clause-emits : goal.returns-clause-emits
returns-clause-emits g c = ends_emits c.loop-key.invariant c.drop_source.ensures.answer c.drop_source.ensures.after c.in_default.is
