use Rattle.std.proofs.Common.{List, ℕ, [], ◌∷◌, ◌++◌}
use Rattle.capture_text.specs.Writing.{line_text}
use Rattle.capture_stream.proofs.WriterLemmas.{Sends-behind}
use Rattle.capture_stream.proofs.writer.Writer.send_emit.Goals as goal

pub returns-in-Err-clause-sent : goal.returns-in-Err-clause-sent
returns-in-Err-clause-sent g c =
    let some = c.in-Err.ensures.sent in
    let text : List ℕ = line_text c.args.emit.now c.args.moment ++ 10 ∷ [] in
    (some.0 ++ text, Sends-behind (g.K.Sink.taken c.args.out.now) (g.K.Sink.taken c.make_room.new.out) c.args.self.now some.0 text some.1)
