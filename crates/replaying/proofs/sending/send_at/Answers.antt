use Rattle.std.proofs.Common.{List, ℕ, ◌++◌, subst, sym, ◌∙◌, ap}
use Rattle.std.proofs.lemmas.List.{append-nil}
use Rattle.capture_stream.specs.Writer.{Sends, Writes}
use Rattle.capture_stream.proofs.WriterLemmas.{Sends-none}
use Rattle.gate_outbox.specs.Output.{emit_of}
use Rattle.bridge.specs.Kept.{output_of}
use Rattle.replaying.proofs.SendingLemmas.{nothing_there, one_line}
use Rattle.replaying.proofs.sending.send_at.Goals as goal

pub returns-in-Some-clause-sent : goal.returns-in-Some-clause-sent
returns-in-Some-clause-sent g c =
    subst (λ (x : List ℕ). Writes (g.K.Sink.taken c.args.out.now) (g.K.Sink.taken c.send_line.new.out) (c.args.writer.now ++ x) c.send_line.new.writer c.send_line.result)
    (one_line c.args.moment (output_of c.args.bridge.now) c.args.place (emit_of c.in-Some.emit) (sym c.in-Some.ensures.emit)) c.send_line.ensures.sent

pub returns-in-None-clause-sent : goal.returns-in-None-clause-sent
returns-in-None-clause-sent g c =
    let t = g.K.Sink.taken c.args.out.now in
    let w = c.args.writer.now in
    subst (λ (x : List ℕ). Sends t t x w)
    (sym (append-nil w) ∙ ap (λ (x : List ℕ). w ++ x) (sym (nothing_there c.args.moment (output_of c.args.bridge.now) c.args.place (sym c.in-None.ensures.emit))))
    (Sends-none t w)
