use Rattle.std.proofs.Common.{◌≤◌, length, ap, subst, ◌∙◌}
use Rattle.gate_outbox.specs.Output.{and_left}
use Rattle.gate_outbox.proofs.Telling.{left_first}
use Rattle.bus_listener.specs.Steps.{by_keys, entry_of}
use Rattle.ais_bridge.specs.AisKept.{AisKept, most_reports}
use Rattle.ais_bridge.specs.Promises.{step_by}
use Rattle.ais_bridge.proofs.EventLemmas.{taken_step}
use Rattle.ais_bridge.proofs.RoomLemmas.{step_fits}
use Rattle.ais_bridge.proofs.bridge.AisBridge.after.Goals as goal

pub returns-clause-emits : goal.returns-clause-emits
returns-clause-emits c =
    let g = c.args.gateway.now in
    let e = entry_of c.args.event.now in
    let fits = subst (λ (k : AisKept). length (step_by g k e).emits.told ≤ most_reports) c.self.view_is
    (step_fits by_keys.fast g.addresses _ e c.count-ordered.ensures.map c.self.invariant.0) in
    c.step.ensures.emits ∙ (ap (λ x. and_left most_reports x (step_by g c.args.self.now e).emits) c.requires.empty ∙ left_first most_reports _ fits)

pub returns-clause-history : goal.returns-clause-history
returns-clause-history c = taken_step c.args.gateway.now c.args.event.now c.args.self.now _ _ c.step.ensures.after (returns-clause-emits c)
