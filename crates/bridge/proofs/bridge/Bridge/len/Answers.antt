use Rattle.std.proofs.Common.{length, ap, ◌∙◌}
use Rattle.bridge.specs.Kept.{Bridged, output_of}
use Rattle.bridge.specs.declared.call_output.CallOutput.{CallOutput}
use Rattle.bridge.proofs.bridge.Bridge.len.Goals as goal

pub returns-then-self : goal.returns-then-self
returns-then-self c =
    let i = c.self.inside in
    let left = λ (o : CallOutput).
    let b : Bridged = record { started = i.started; start = i.start; gateway = i.gateway; parts = i.parts; plain = i.plain; replaced = i.replaced; records = i.records; output = o } in
    length (output_of b) in
    c.len_in.ensures ∙ ap left c.deref.ensures ∙ ap (λ (b : Bridged). length (output_of b)) c.self.view_is
