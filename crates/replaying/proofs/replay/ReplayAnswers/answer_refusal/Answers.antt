use Rattle.std.proofs.Common.{◌≡◌, List, ℕ, ◌++◌, Err, ap, subst, ◌∙◌}
use Rattle.gate_events.specs.declared.emit.Detail.TheVariants as detail
use Rattle.capture_text.specs.LineRule.{rule_number}
use Rattle.capture_stream.specs.Writer.{Writes}
use Rattle.history.specs.Emits.{broken}
use Rattle.capture_text.specs.Emitted.{line_of}
use Rattle.replaying.specs.Replaying.{IsAnswer}
use Rattle.replaying.proofs.Replays.{gives_refusal}
use Rattle.replaying.proofs.SendingLemmas.{is_sent}
use Rattle.replaying.proofs.replay.ReplayAnswers.answer_refusal.Goals as goal

pub returns-clause-sent : goal.returns-clause-sent
returns-clause-sent g c =
    let b = c.args.self.now.bridge.now in
    let n = c.args.number in
    let t = g.K.Sink.taken c.args.out.now in
    let t' = g.K.Sink.taken c.send_line.new.out in
    let text = line_of (record { moment = b.gateway.moment; emit = broken (rule_number c.args.rule) (detail.Line n) }) in
    let same : line_of (record { moment = c.moment.result; emit = broken c.number.result (detail.Line n) }) ≡ text =
    ap (λ (m : ℕ). line_of (record { moment = m; emit = broken c.number.result (detail.Line n) })) c.moment.ensures
    ∙ ap (λ (r : ℕ). line_of (record { moment = b.gateway.moment; emit = broken r (detail.Line n) })) c.number.ensures in
    is_sent (IsAnswer c.args.self.now n (Err c.args.rule)) t t' c.args.writer.now text c.send_line.new.writer c.args.self.now c.send_line.result (gives_refusal c.args.rule n b)
    (subst (λ (x : List ℕ). Writes t t' (c.args.writer.now ++ x) c.send_line.new.writer c.send_line.result) same c.send_line.ensures.sent)
