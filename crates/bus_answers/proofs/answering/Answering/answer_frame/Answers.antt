use Rattle.std.proofs.Common.{List, map, refl, sym, ap, ◌∙◌, arith}
use Rattle.gate_events.specs.Emit.{Emit, can}
use Rattle.gate_outbox.specs.Output.{and_told}
use Rattle.n2k_id.specs.declared.frame.Frame.{Frame}
use Rattle.n2k_id.specs.Frame.{bus_frame}
use Rattle.bus_answers.specs.AnsweringPart.{most_answered}
use Rattle.bus_answers.proofs.Answers.{frame_told, frames_fit, unready_told}
use Rattle.bus_answers.proofs.answering.Answering.answer_frame.Goals as goal

pub returns-in-Nothing : goal.returns-in-Nothing
returns-in-Nothing c =
    let a = c.answer-answered.ensures in
    let t =
    frame_told most_answered c.own.result _ c.ready.result _ (bus_frame c.args.frame.now) c.args.self.now.identity c.answer-answered.new.self
    c.args.out.now c.args.out.now (map bus_frame c.answer-answered.new.out.items) _ c.own.ensures.own c.ready.ensures.ready
    (sym c.in-Nothing.is ∙ a.answer) a.frames a.after refl (omega arith) in
    record { kept = t.kept; told = t.told; few = t.few; gave = λ none. refl }

pub returns-in-Sent : goal.returns-in-Sent
returns-in-Sent c =
    let a = c.answer-answered.ensures in
    let frames = c.answer-answered.new.out.items in
    let t =
    frame_told most_answered c.own.result _ c.ready.result _ (bus_frame c.args.frame.now) c.args.self.now.identity c.answer-answered.new.self
    c.args.out.now c.send_all.new.out (map bus_frame frames) _ c.own.ensures.own c.ready.ensures.ready (sym c.in-Sent.is ∙ a.answer) a.frames a.after
    (c.send_all.ensures ∙ ap (λ (fs : List Frame). and_told most_answered c.args.out.now (map can (map bus_frame fs))) c.deref.ensures.0)
    (frames_fit most_answered c.deref.result.now frames c.deref.ensures.0 c.deref.ensures.1) in
    record { kept = t.kept; told = t.told; few = t.few; gave = λ none. cc }

pub returns-in-NotReady : goal.returns-in-NotReady
returns-in-NotReady c =
    let a = c.answer-answered.ensures in
    let refusal =
    unready_told c.args.frame.now.id (bus_frame c.args.frame.now).held c.parts.result c.unwrap.result c.of_source.result
    c.unwrap.ensures c.parts.ensures.parts c.of_source.ensures in
    let t =
    frame_told most_answered c.own.result _ c.ready.result _ (bus_frame c.args.frame.now) c.args.self.now.identity c.answer-answered.new.self
    c.args.out.now c.tell.new.self (map bus_frame c.answer-answered.new.out.items) _ c.own.ensures.own c.ready.ensures.ready
    (sym c.in-NotReady.is ∙ a.answer) a.frames a.after
    (c.tell.ensures ∙ ap (λ (es : List Emit). and_told most_answered c.args.out.now es) refusal) (omega arith) in
    record { kept = t.kept; told = t.told; few = t.few; gave = λ none. cc }
