use Rattle.std.proofs.Common.{ℕ, List, ap, take, refl, subst, ◌∙◌}
use Rattle.std.specs.Prelude.{Some, None, Ok, Err}
use Rattle.capture_text.specs.Reading.{read}
use Rattle.gate_outside.specs.declared.link.Arrival.{Arrival}
use Rattle.gate_outside.specs.Link.{Receives}
use Rattle.serving.specs.Turns.{line_says}
use Rattle.serving.proofs.arrival.receive_frame.Goals as goal

pub returns-in-Ok-clause-came : goal.returns-in-Ok-clause-came
returns-in-Ok-clause-came g c =
    let t = g.B.Link.traffic c.args.bus.now in
    let t' = g.B.Link.traffic c.receive.new.self in (
      Ok (Some (take c.in-Ok-Bytes.count c.receive.new.buf)),
      subst (λ (a : Arrival). Receives c.receive.new.buf t t' (Ok a)) c.in-Ok-Bytes.field-0-is c.in-Ok-Bytes.ensures.told,
      λ m. c.in-Ok.ensures.came m ∙ ap (λ (x : List ℕ). line_says m c.args.number (read x)) c.text_of.ensures,
    )

pub returns-in-Err-frame_in-clause-came : goal.returns-in-Err-frame_in-clause-came
returns-in-Err-frame_in-clause-came g c =
    let t = g.B.Link.traffic c.args.bus.now in
    let t' = g.B.Link.traffic c.receive.new.self in (
      Ok (Some (take c.in-Ok-Bytes.count c.receive.new.buf)),
      subst (λ (a : Arrival). Receives c.receive.new.buf t t' (Ok a)) c.in-Ok-Bytes.field-0-is c.in-Ok-Bytes.ensures.told,
      λ m. c.in-Err-frame_in.ensures.came m ∙ ap (λ (x : List ℕ). line_says m c.args.number (read x)) c.text_of.ensures,
    )

pub returns-in-Ok-Nothing-clause-came : goal.returns-in-Ok-Nothing-clause-came
returns-in-Ok-Nothing-clause-came g c =
    let t = g.B.Link.traffic c.args.bus.now in
    let t' = g.B.Link.traffic c.receive.new.self in (
      Ok None,
      subst (λ (a : Arrival). Receives c.receive.new.buf t t' (Ok a)) c.in-Ok-Nothing.field-0-is c.in-Ok-Nothing.ensures.told,
      λ m. refl,
    )

pub returns-in-Err-clause-came : goal.returns-in-Err-clause-came
returns-in-Err-clause-came g c = (Err c.in-Err.field-0, c.in-Err.ensures.told, λ m. refl)
