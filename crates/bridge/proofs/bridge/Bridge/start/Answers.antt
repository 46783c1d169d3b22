use Rattle.std.proofs.Common.{◌≡◌, true, refl, sym, ap, subst, ◌∙◌}
use Rattle.gate_model.specs.Machine.{Machine}
use Rattle.bridge.specs.BridgeStands.{IsForgotten}
use Rattle.bridge.specs.Kept.{Bridged}
use Rattle.bridge.specs.declared.call_output.CallOutput.{CallOutput}
use Rattle.bridge.proofs.Steps.{is_start}
use Rattle.bridge.proofs.bridge.Bridge.start.Goals as goal

pub returns-clause-start : goal.returns-clause-start
returns-clause-start c =
    let i = c.self.inside in
    let s = c.args.moment in
    let x = c.as_mut.result.now in
    let g = c.start.new.self in
    let between : Bridged = record { started = i.started; start = i.start; gateway = i.gateway; parts = i.parts; plain = i.plain; replaced = i.replaced; records = i.records; output = x } in
    let left : CallOutput = record x { outbox = c.start.new.out } in
    let after : Bridged = record between { started = true; start = s; gateway = g; output = left } in
    let same : between ≡ c.forget.new.self = ap (λ (o : CallOutput). let b : Bridged = record between { output = o } in b) c.as_mut.ensures.value ∙ c.self.view_is in
    let forgot : IsForgotten c.args.self.now between = subst (λ (b : Bridged). IsForgotten c.args.self.now b) (sym same) c.forget.ensures in
    is_start s c.args.self.now between after forgot c.start.ensures.stands (ap (λ (m : Machine). m.settings) c.start.ensures.after) c.start.ensures.emits refl
