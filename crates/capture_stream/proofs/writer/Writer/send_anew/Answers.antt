use Rattle.std.proofs.Common.{◌++◌}
use Rattle.capture_stream.proofs.WriterLemmas.{Sends-behind, flushed_send}
use Rattle.capture_stream.proofs.writer.Writer.send_anew.Goals as goal

pub returns-in-Err-clause-sent : goal.returns-in-Err-clause-sent
returns-in-Err-clause-sent g c =
    let some = c.in-Err.ensures.sent in
    (some.0 ++ c.args.text.now, Sends-behind (g.K.Sink.taken c.args.out.now) (g.K.Sink.taken c.flush.new.out) c.args.self.now some.0 c.args.text.now some.1)

pub returns-then-text-gt-ROOM-clause-sent : goal.returns-then-text-gt-ROOM-clause-sent
returns-then-text-gt-ROOM-clause-sent g c =
    flushed_send (g.K.Sink.taken c.args.out.now) (g.K.Sink.taken c.flush.new.out) (g.K.Sink.taken c.send_now.new.out) c.args.self.now c.args.text.now c.flush.new.self c.send_now.result c.in-Ok.ensures.sent c.send_now.ensures.sent c.in-Ok.ensures.none
