use Rattle.capture_stream.specs.Answering.{LineGives}
use Rattle.capture_text.specs.Lines.{lines_of}
use Rattle.capture_stream.proofs.StandLemmas.{whole_stopped}
use Rattle.capture_stream.proofs.DueLemmas.{last_waits, last_flushed}
use Rattle.capture_stream.proofs.streaming.answer_last.Goals as goal

pub returns-in-Ok-clause-sent : goal.returns-in-Ok-clause-sent
returns-in-Ok-clause-sent g c =
    let put = c.in-Ok.ensures.sent in
    last_flushed g.A.Answers.gives c.args.answers.now c.send_next.new.answers (g.K.Sink.taken c.args.out.now) (g.K.Sink.taken c.send_next.new.out) (g.K.Sink.taken c.flush.new.out)
    c.args.reader.now c.finish-next.new.self c.args.writer.now c.send_next.new.writer put.0 c.args.number c.finish-next.result c.flush.result
    c.finish-next.ensures put.1 put.2 c.flush.ensures.sent

pub returns-in-Err-clause-sent : goal.returns-in-Err-clause-sent
returns-in-Err-clause-sent g c = λ first left left' told size r.
    let put = c.in-Err.ensures.sent in
    whole_stopped (LineGives g.A.Answers.gives) first told (g.K.Sink.taken c.send_next.new.out) (lines_of r.stand.read) put.3
    (last_waits g.A.Answers.gives first c.args.answers.now put.1 left left' told (g.K.Sink.taken c.args.out.now) (g.K.Sink.taken c.send_next.new.out)
    c.args.reader.now c.finish-next.new.self c.args.writer.now put.3 put.0 c.args.number size c.finish-next.result r c.finish-next.ensures put.2 put.4)
