use Rattle.std.proofs.Common.{subst, sym}
use Rattle.std.specs.Prelude.{Ok}
use Rattle.gate_events.specs.Event.{frame}
use Rattle.n2k_id.specs.Frame.{bus_frame}
use Rattle.capture_stream.specs.Answering.{LineGives, NextGives, Sent}
use Rattle.capture_stream.specs.LineReader.{IsNextRead}
use Rattle.capture_stream.specs.declared.line_reader.Next.{Next}
use Rattle.capture_stream.proofs.SaidLemmas.{sent_as, usual_gives}
use Rattle.capture_stream.proofs.streaming.send_next.Goals as goal

pub returns-in-Usual-clause-sent : goal.returns-in-Usual-clause-sent
returns-in-Usual-clause-sent g c =
    let gives = g.A.Answers.gives in
    let before = c.args.answers.now in
    let line = c.args.reader.now.line in
    let is = subst (λ (next : Next). IsNextRead next line) c.in-Usual.is c.requires in
    let told = g.K.Sink.taken c.args.out.now in
    let told' = g.K.Sink.taken c.answer_event.new.out in
    let sent = sent_as (gives before c.args.number (Ok (frame c.in-Usual.moment (bus_frame c.in-Usual.frame)))) (LineGives gives before c.args.number line) told told' c.args.writer.now c.answer_event.new.writer
    c.answer_event.new.self c.answer_event.result (λ text kept. usual_gives gives before kept c.args.number c.in-Usual.moment c.in-Usual.frame line text is) c.answer_event.ensures.sent in
    subst (λ (next : Next). Sent (NextGives gives before next c.args.number line) told told' c.args.writer.now c.answer_event.new.writer c.answer_event.new.self c.answer_event.result) (sym c.in-Usual.is) sent
