use Rattle.std.proofs.Common.{slice_get, ap, ◌∙◌}
use Rattle.bridge.specs.Kept.{Bridged, output_of}
use Rattle.bridge.specs.declared.call_output.CallOutput.{CallOutput}
use Rattle.bridge.proofs.bridge.Bridge.emit.Goals as goal

pub returns-clause-emit : goal.returns-clause-emit
returns-clause-emit c =
    let i = c.self.inside in
    let left = λ (o : CallOutput).
    let b : Bridged = record { started = i.started; start = i.start; gateway = i.gateway; parts = i.parts; plain = i.plain; replaced = i.replaced; records = i.records; output = o } in
    slice_get (output_of b) c.args.place in
    c.emit_in.ensures.emit ∙ ap left c.deref.ensures ∙ ap (λ (b : Bridged). slice_get (output_of b) c.args.place) c.self.view_is
