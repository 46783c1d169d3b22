use Rattle.std.proofs.Common.{List, ℕ, [], length, refl, sym, subst, ◌∙◌}
use Rattle.std.proofs.lemmas.Bool.{eqb-true, eqb-false}
use Rattle.std.proofs.lemmas.List.{append-nil}
use Rattle.capture_text.specs.Reading.{read}
use Rattle.capture_stream.specs.Answering.{LineGives}
use Rattle.capture_stream.specs.Writer.{Sends}
use Rattle.capture_stream.proofs.SaidLemmas.{gives_empty, gives_line, sent_as}
use Rattle.capture_stream.proofs.WriterLemmas.{Sends-none}
use Rattle.capture_stream.proofs.streaming.send_unless_empty.Goals as goal

pub returns-then-is_empty-clause-sent : goal.returns-then-is_empty-clause-sent
returns-then-is_empty-clause-sent g c =
    let told = g.K.Sink.taken c.args.out.now in
    let w = c.args.writer.now in (
      [],
      gives_empty g.A.Answers.gives c.args.answers.now c.args.answers.now c.args.number c.args.line.now [] (eqb-true (length c.args.line.now) 0 (sym c.is_empty.ensures ∙ c.if-is_empty.true)) refl refl,
      subst (λ (x : List ℕ). Sends told told x w) (sym (append-nil w)) (Sends-none told w),
    )

pub returns-clause-sent : goal.returns-clause-sent
returns-clause-sent g c =
    let some = eqb-false (length c.args.line.now) 0 (sym c.is_empty.ensures ∙ c.if-is_empty.false) in
    sent_as (g.A.Answers.gives c.args.answers.now c.args.number (read c.args.line.now)) (LineGives g.A.Answers.gives c.args.answers.now c.args.number c.args.line.now) (g.K.Sink.taken c.args.out.now)
    (g.K.Sink.taken c.send_read.new.out) c.args.writer.now c.send_read.new.writer c.send_read.new.answers c.send_read.result
    (λ text kept. gives_line g.A.Answers.gives c.args.answers.now kept c.args.number c.args.line.now text some) c.send_read.ensures.sent
