use Rattle.std.proofs.Common.{List, ℕ, ◌++◌, subst}
use Rattle.capture_stream.specs.Writer.{Writes}
use Rattle.replaying.proofs.SendingLemmas.{same_line}
use Rattle.replaying.proofs.sending.send_line.Goals as goal

pub returns-clause-sent : goal.returns-clause-sent
returns-clause-sent g c =
    subst (λ (x : List ℕ). Writes (g.K.Sink.taken c.args.out.now) (g.K.Sink.taken c.send_emit.new.out) (c.args.writer.now ++ x) c.send_emit.new.self c.send_emit.result)
    (same_line c.args.moment c.args.emit.now) c.send_emit.ensures.sent
