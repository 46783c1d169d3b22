use Rattle.std.proofs.Common.{List, ℕ, ◌++◌, sym, subst, ◌∙◌}
use Rattle.std.proofs.lemmas.List.{append-nil, nil_from_length}
use Rattle.replaying.specs.Replayed.{emitted_text}
use Rattle.history.specs.Emits.{at}
use Rattle.gate_events.specs.Emit.{Emit}
use Rattle.capture_stream.specs.Writer.{Sends}
use Rattle.capture_stream.proofs.WriterLemmas.{Sends-none}
use Rattle.bridge.specs.Kept.{output_of}
use Rattle.replaying.proofs.sending.send_lines.Goals as goal

pub returns-then-count-eq0-clause-sent : goal.returns-then-count-eq0-clause-sent
returns-then-count-eq0-clause-sent g c =
    let told = g.K.Sink.taken c.args.out.now in
    let waiting = c.args.writer.now in
    let none = nil_from_length (output_of c.args.bridge.now) (sym c.len-count.ensures ∙ c.if-count-eq0.true) in
    subst (λ (es : List Emit). Sends told told (waiting ++ emitted_text (at c.args.moment es)) waiting) (sym none)
    (subst (λ (x : List ℕ). Sends told told x waiting) (sym (append-nil waiting)) (Sends-none told waiting))
