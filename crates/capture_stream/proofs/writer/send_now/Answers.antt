use Rattle.std.proofs.Common.{◌∙◌}
use Rattle.capture_stream.proofs.WriterLemmas.{Sends-write, part-of}
use Rattle.capture_stream.proofs.writer.send_now.Goals as goal

pub loop-rest-preserved : goal.loop-rest-preserved
loop-rest-preserved g c = record {
  sent = Sends-write (g.K.Sink.taken c.args.out.now) (g.K.Sink.taken c.loop-rest.out) (g.K.Sink.taken c.write.new.self) c.args.piece.now c.loop-rest.rest.now c.in-Ok.count c.loop-rest.invariant.sent c.in-Ok.ensures.bytes;
  steady = c.in-Ok.ensures.cause.steady ∙ c.loop-rest.invariant.steady;
}

pub returns-in-Err-clause-part : goal.returns-in-Err-clause-part
returns-in-Err-clause-part g c =
    part-of (g.K.Sink.taken c.args.out.now) (g.K.Sink.taken c.loop-rest.out) (g.K.Sink.taken c.write.new.self) c.args.piece.now c.loop-rest.rest.now c.is_empty.result
    c.loop-rest.invariant.sent c.in-Err.ensures.bytes c.is_empty.ensures c.loop-rest-test.true
