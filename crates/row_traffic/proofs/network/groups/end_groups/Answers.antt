use Rattle.std.proofs.Common.{[], ◌∷◌, ap, ◌∙◌}
use Rattle.gate_events.specs.Emit.{report}
use Rattle.gate_outbox.specs.Output.{and_told, most_told}
use Rattle.gate_outbox.proofs.Telling.{fewer, one_ended, ends_slots, ends_emits}
use Rattle.row_traffic.proofs.network.groups.end_groups.Goals as goal

pub loop-key-smaller : goal.loop-key-smaller
loop-key-smaller c = fewer c.loop-key.invariant c.expire_one.ensures.answer c.expire_one.ensures.after c.in-Some.is

pub loop-key-preserved : goal.loop-key-preserved
loop-key-preserved c =
    one_ended c.loop-key.invariant c.expire_one.ensures.answer c.expire_one.ensures.after c.in-Some.is
    (c.tell.ensures ∙ ap (λ r. and_told most_told c.loop-key.out (report r ∷ [])) c.of_group.ensures)

pub returns-clause-groups : goal.returns-clause-groups
returns-clause-groups c = ends_slots c.loop-key.invariant c.expire_one.ensures.answer c.expire_one.ensures.after c.in_default.is

pub returns-clause-emits : goal.returns-clause-emits
returns-clause-emits c = ends_emits c.loop-key.invariant c.expire_one.ensures.answer c.expire_one.ensures.after c.in_default.is
