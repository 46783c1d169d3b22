use Rattle.std.proofs.Common.{refl, ap, subst, ◌∙◌}
use Rattle.gate_outbox.specs.Output.{Emitted, Output, nothing}
use Rattle.bridge.specs.BridgeStands.{IsForgotten}
use Rattle.bridge.specs.Kept.{Bridged}
use Rattle.bridge.specs.declared.call_output.CallOutput.{CallOutput}
use Rattle.bridge.proofs.bridge.Bridge.forget.Goals as goal

pub returns-then-self : goal.returns-then-self
returns-then-self c =
    let i = c.self.inside in
    let parts = c.clear-then-self-2.new.self in
    let output : CallOutput = record { outbox = c.clear.new.self; ordered = 0; plain = c.clear-then-self.new.self } in
    let before : Bridged =
    record { started = i.started; start = i.start; gateway = i.gateway; parts = i.parts; plain = i.plain; replaced = i.replaced; records = i.records; output = i.output.value } in
    let after : Bridged = record before { parts = parts; output = output } in
    subst (λ (b : Bridged). IsForgotten b after) c.self.view_is (record {
      started = refl;
      start = refl;
      gateway = refl;
      plain = refl;
      replaced = refl;
      records = refl;
      output = ap (λ (o : Output). let x : CallOutput = record { outbox = o; ordered = 0; plain = c.clear-then-self.new.self } in x) c.clear.ensures
          ∙ ap (λ (p : Emitted). let x : CallOutput = record { outbox = nothing; ordered = 0; plain = p } in x) c.clear-then-self.ensures;
      kept = c.clear-then-self-2.ensures.kept;
      emits = c.clear-then-self-2.ensures.output;
      said = c.clear-then-self-2.ensures.plain;
    })
