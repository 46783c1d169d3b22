use Rattle.std.proofs.Common.{◌+◌, List, ℕ, [], refl, sym, ap, subst, ◌∙◌, arith}
use Rattle.capture_stream.specs.Answering.{LineGives}
use Rattle.capture_stream.specs.LineReader.{Held}
use Rattle.capture_stream.specs.Progress.{Stand, Rested}
use Rattle.capture_stream.proofs.StandLemmas.{stand_filled, number_fits}
use Rattle.capture_stream.proofs.EndLemmas.{Ended, begins, rested_sent, flush_failed, read_failed, limit_passed, lines_failed, rested_end, finished, last_failed}
use Rattle.capture_stream.proofs.streaming.answer_capture.Goals as goal

pub pieces-init : goal.pieces-init
pieces-init g c = record {
  rested = subst (λ (w : List ℕ). Rested (LineGives g.A.Answers.gives) c.args.answers.now (g.S.Source.left c.args.input.now) (g.S.Source.left c.args.input.now) (g.K.Sink.taken c.args.out.now) (g.K.Sink.taken c.args.out.now) c.new-reader.result w 0 0 c.args.answers.now) (sym c.new-writer.ensures)
      (begins (LineGives g.A.Answers.gives) c.args.answers.now (g.S.Source.left c.args.input.now) (g.K.Sink.taken c.args.out.now) c.new-reader.result (ap (λ (h : Held). h.unread) c.new-reader.ensures) (ap (λ (h : Held). h.skipping) c.new-reader.ensures));
  within = omega arith;
  source = refl;
  sink = refl;
}

pub returns-in-Err-clause-ends : goal.returns-in-Err-clause-ends
returns-in-Err-clause-ends g c =
    let some = c.in-Err.ensures.sent in
    flush_failed (LineGives g.A.Answers.gives) c.args.answers.now c.pieces.answers (g.S.Source.left c.args.input.now) (g.S.Source.left c.pieces.input) (g.K.Sink.taken c.args.out.now) (g.K.Sink.taken c.pieces.out) (g.K.Sink.taken c.flush.new.out) c.pieces.reader c.pieces.writer some.0 c.pieces.number c.pieces.total c.pieces.invariant.rested some.1 c.pieces.invariant.within

pub returns-in-Err-fill-clause-ends : goal.returns-in-Err-fill-clause-ends
returns-in-Err-fill-clause-ends g c =
    let sent = rested_sent (LineGives g.A.Answers.gives) c.args.answers.now c.pieces.answers (g.S.Source.left c.args.input.now) (g.S.Source.left c.pieces.input) (g.K.Sink.taken c.args.out.now) (g.K.Sink.taken c.pieces.out) (g.K.Sink.taken c.flush.new.out) c.pieces.reader c.pieces.writer c.pieces.number c.pieces.total c.pieces.invariant.rested c.in_default.ensures.sent in
    read_failed (LineGives g.A.Answers.gives) c.args.answers.now c.pieces.answers (g.S.Source.left c.args.input.now) (g.S.Source.left c.pieces.input) (g.S.Source.left c.fill.new.input) (g.K.Sink.taken c.args.out.now) (g.K.Sink.taken c.flush.new.out) c.pieces.reader c.pieces.number c.pieces.total sent c.in-Err-fill.ensures.bytes c.pieces.invariant.within

pub answer_last-requires : goal.answer_last-requires
answer_last-requires g c = omega (arith, number_fits (LineGives g.A.Answers.gives) c.args.answers.now c.pieces.answers (g.S.Source.left c.args.input.now) (g.S.Source.left c.pieces.input) (g.K.Sink.taken c.args.out.now) (g.K.Sink.taken c.pieces.out) c.pieces.reader c.pieces.writer c.pieces.number c.pieces.total c.pieces.invariant.rested.stand, c.pieces.invariant.within)

pub returns-in-Ok-answer_last-clause-ends : goal.returns-in-Ok-answer_last-clause-ends
returns-in-Ok-answer_last-clause-ends g c =
    let sent = rested_sent (LineGives g.A.Answers.gives) c.args.answers.now c.pieces.answers (g.S.Source.left c.args.input.now) (g.S.Source.left c.pieces.input) (g.K.Sink.taken c.args.out.now) (g.K.Sink.taken c.pieces.out) (g.K.Sink.taken c.flush.new.out) c.pieces.reader c.pieces.writer c.pieces.number c.pieces.total c.pieces.invariant.rested c.in_default.ensures.sent in
    let came = c.in-Ok-eq0.ensures.bytes in
    let at_end = rested_end (LineGives g.A.Answers.gives) c.args.answers.now c.pieces.answers (g.S.Source.left c.args.input.now) (g.S.Source.left c.pieces.input) (g.S.Source.left c.fill.new.input) (g.K.Sink.taken c.args.out.now) (g.K.Sink.taken c.flush.new.out) c.pieces.reader c.fill.new.self [] came.0 c.pieces.number c.pieces.total c.in-Ok-eq0.field-0 sent came.1 c.in-Ok-eq0.field-0-test came.2 came.3 in
    let ended : Ended (LineGives g.A.Answers.gives) c.args.answers.now (g.S.Source.left c.args.input.now) (g.S.Source.left c.fill.new.input) (g.K.Sink.taken c.args.out.now) (g.K.Sink.taken c.flush.new.out) c.fill.new.self c.flush.new.self c.pieces.number c.pieces.total c.pieces.answers = subst (λ (w : List ℕ). Ended (LineGives g.A.Answers.gives) c.args.answers.now (g.S.Source.left c.args.input.now) (g.S.Source.left c.fill.new.input) (g.K.Sink.taken c.args.out.now) (g.K.Sink.taken c.flush.new.out) c.fill.new.self w c.pieces.number c.pieces.total c.pieces.answers) (sym c.in_default.ensures.none) at_end in
    finished (LineGives g.A.Answers.gives) c.args.answers.now c.pieces.answers (g.S.Source.left c.args.input.now) (g.S.Source.left c.fill.new.input) (g.K.Sink.taken c.args.out.now) (g.K.Sink.taken c.flush.new.out) (g.K.Sink.taken c.answer_last.new.out) c.fill.new.self c.flush.new.self c.pieces.number c.pieces.total ended c.pieces.invariant.within
    (c.in-Ok-answer_last.ensures.sent c.args.answers.now (g.S.Source.left c.args.input.now) (g.S.Source.left c.fill.new.input) (g.K.Sink.taken c.args.out.now) c.pieces.total ended.rested)

pub returns-in-Err-answer_last-clause-ends : goal.returns-in-Err-answer_last-clause-ends
returns-in-Err-answer_last-clause-ends g c =
    let sent = rested_sent (LineGives g.A.Answers.gives) c.args.answers.now c.pieces.answers (g.S.Source.left c.args.input.now) (g.S.Source.left c.pieces.input) (g.K.Sink.taken c.args.out.now) (g.K.Sink.taken c.pieces.out) (g.K.Sink.taken c.flush.new.out) c.pieces.reader c.pieces.writer c.pieces.number c.pieces.total c.pieces.invariant.rested c.in_default.ensures.sent in
    let came = c.in-Ok-eq0.ensures.bytes in
    let at_end = rested_end (LineGives g.A.Answers.gives) c.args.answers.now c.pieces.answers (g.S.Source.left c.args.input.now) (g.S.Source.left c.pieces.input) (g.S.Source.left c.fill.new.input) (g.K.Sink.taken c.args.out.now) (g.K.Sink.taken c.flush.new.out) c.pieces.reader c.fill.new.self [] came.0 c.pieces.number c.pieces.total c.in-Ok-eq0.field-0 sent came.1 c.in-Ok-eq0.field-0-test came.2 came.3 in
    let ended : Ended (LineGives g.A.Answers.gives) c.args.answers.now (g.S.Source.left c.args.input.now) (g.S.Source.left c.fill.new.input) (g.K.Sink.taken c.args.out.now) (g.K.Sink.taken c.flush.new.out) c.fill.new.self c.flush.new.self c.pieces.number c.pieces.total c.pieces.answers = subst (λ (w : List ℕ). Ended (LineGives g.A.Answers.gives) c.args.answers.now (g.S.Source.left c.args.input.now) (g.S.Source.left c.fill.new.input) (g.K.Sink.taken c.args.out.now) (g.K.Sink.taken c.flush.new.out) c.fill.new.self w c.pieces.number c.pieces.total c.pieces.answers) (sym c.in_default.ensures.none) at_end in
    last_failed (LineGives g.A.Answers.gives) c.args.answers.now c.pieces.answers (g.S.Source.left c.args.input.now) (g.S.Source.left c.fill.new.input) (g.K.Sink.taken c.args.out.now) (g.K.Sink.taken c.flush.new.out) (g.K.Sink.taken c.answer_last.new.out) c.fill.new.self c.flush.new.self c.pieces.number c.pieces.total ended c.pieces.invariant.within
    (c.in-Err-answer_last.ensures.sent c.args.answers.now (g.S.Source.left c.args.input.now) (g.S.Source.left c.fill.new.input) (g.K.Sink.taken c.args.out.now) c.pieces.total ended.rested)

pub returns-then-total-gt-LIMIT-clause-ends : goal.returns-then-total-gt-LIMIT-clause-ends
returns-then-total-gt-LIMIT-clause-ends g c =
    let sent = rested_sent (LineGives g.A.Answers.gives) c.args.answers.now c.pieces.answers (g.S.Source.left c.args.input.now) (g.S.Source.left c.pieces.input) (g.K.Sink.taken c.args.out.now) (g.K.Sink.taken c.pieces.out) (g.K.Sink.taken c.flush.new.out) c.pieces.reader c.pieces.writer c.pieces.number c.pieces.total c.pieces.invariant.rested c.in_default.ensures.sent in
    let came = c.in-Ok.ensures.bytes in
    let empty = stand_filled (LineGives g.A.Answers.gives) c.args.answers.now c.pieces.answers (g.S.Source.left c.args.input.now) (g.S.Source.left c.pieces.input) (g.S.Source.left c.fill.new.input) (g.K.Sink.taken c.args.out.now) (g.K.Sink.taken c.flush.new.out) c.pieces.reader c.fill.new.self [] came.0 c.pieces.number c.pieces.total c.in-Ok.count sent.stand came.1.leaves came.1.counted came.2 came.3 in
    limit_passed (LineGives g.A.Answers.gives) c.args.answers.now c.pieces.answers (g.S.Source.left c.args.input.now) (g.S.Source.left c.fill.new.input) (g.K.Sink.taken c.args.out.now) (g.K.Sink.taken c.flush.new.out) c.fill.new.self [] c.pieces.number (c.pieces.total + c.in-Ok.count) empty (omega (arith, c.if-total-gt-LIMIT.true, c.in-Ok.ensures.most, c.pieces.invariant.within))

pub answer_lines-requires : goal.answer_lines-requires
answer_lines-requires g c =
    let sent = rested_sent (LineGives g.A.Answers.gives) c.args.answers.now c.pieces.answers (g.S.Source.left c.args.input.now) (g.S.Source.left c.pieces.input) (g.K.Sink.taken c.args.out.now) (g.K.Sink.taken c.pieces.out) (g.K.Sink.taken c.flush.new.out) c.pieces.reader c.pieces.writer c.pieces.number c.pieces.total c.pieces.invariant.rested c.in_default.ensures.sent in
    let came = c.in-Ok.ensures.bytes in
    let empty = stand_filled (LineGives g.A.Answers.gives) c.args.answers.now c.pieces.answers (g.S.Source.left c.args.input.now) (g.S.Source.left c.pieces.input) (g.S.Source.left c.fill.new.input) (g.K.Sink.taken c.args.out.now) (g.K.Sink.taken c.flush.new.out) c.pieces.reader c.fill.new.self [] came.0 c.pieces.number c.pieces.total c.in-Ok.count sent.stand came.1.leaves came.1.counted came.2 came.3 in
    omega (arith, number_fits (LineGives g.A.Answers.gives) c.args.answers.now c.pieces.answers (g.S.Source.left c.args.input.now) (g.S.Source.left c.fill.new.input) (g.K.Sink.taken c.args.out.now) (g.K.Sink.taken c.flush.new.out) c.fill.new.self [] c.pieces.number (c.pieces.total + c.in-Ok.count) empty, c.if-total-gt-LIMIT.false)

pub returns-in-Err-answer_lines-clause-ends : goal.returns-in-Err-answer_lines-clause-ends
returns-in-Err-answer_lines-clause-ends g c =
    let sent = rested_sent (LineGives g.A.Answers.gives) c.args.answers.now c.pieces.answers (g.S.Source.left c.args.input.now) (g.S.Source.left c.pieces.input) (g.K.Sink.taken c.args.out.now) (g.K.Sink.taken c.pieces.out) (g.K.Sink.taken c.flush.new.out) c.pieces.reader c.pieces.writer c.pieces.number c.pieces.total c.pieces.invariant.rested c.in_default.ensures.sent in
    let came = c.in-Ok.ensures.bytes in
    let empty = stand_filled (LineGives g.A.Answers.gives) c.args.answers.now c.pieces.answers (g.S.Source.left c.args.input.now) (g.S.Source.left c.pieces.input) (g.S.Source.left c.fill.new.input) (g.K.Sink.taken c.args.out.now) (g.K.Sink.taken c.flush.new.out) c.pieces.reader c.fill.new.self [] came.0 c.pieces.number c.pieces.total c.in-Ok.count sent.stand came.1.leaves came.1.counted came.2 came.3 in
    let filled : Stand (LineGives g.A.Answers.gives) c.args.answers.now (g.S.Source.left c.args.input.now) (g.S.Source.left c.fill.new.input) (g.K.Sink.taken c.args.out.now) (g.K.Sink.taken c.flush.new.out) c.fill.new.self c.flush.new.self c.pieces.number (c.pieces.total + c.in-Ok.count) c.pieces.answers = subst (λ (w : List ℕ). Stand (LineGives g.A.Answers.gives) c.args.answers.now (g.S.Source.left c.args.input.now) (g.S.Source.left c.fill.new.input) (g.K.Sink.taken c.args.out.now) (g.K.Sink.taken c.flush.new.out) c.fill.new.self w c.pieces.number (c.pieces.total + c.in-Ok.count) c.pieces.answers) (sym c.in_default.ensures.none) empty in
    lines_failed (LineGives g.A.Answers.gives) c.args.answers.now c.pieces.answers (g.S.Source.left c.args.input.now) (g.S.Source.left c.fill.new.input) (g.K.Sink.taken c.args.out.now) (g.K.Sink.taken c.flush.new.out) (g.K.Sink.taken c.answer_lines.new.out) c.fill.new.self c.flush.new.self c.pieces.number (c.pieces.total + c.in-Ok.count) filled c.if-total-gt-LIMIT.false
    (c.in-Err-answer_lines.ensures.sent c.args.answers.now (g.S.Source.left c.args.input.now) (g.S.Source.left c.fill.new.input) (g.K.Sink.taken c.args.out.now) (c.pieces.total + c.in-Ok.count) filled)

pub pieces-preserved : goal.pieces-preserved
pieces-preserved g c =
    let sent = rested_sent (LineGives g.A.Answers.gives) c.args.answers.now c.pieces.answers (g.S.Source.left c.args.input.now) (g.S.Source.left c.pieces.input) (g.K.Sink.taken c.args.out.now) (g.K.Sink.taken c.pieces.out) (g.K.Sink.taken c.flush.new.out) c.pieces.reader c.pieces.writer c.pieces.number c.pieces.total c.pieces.invariant.rested c.in_default.ensures.sent in
    let came = c.in-Ok.ensures.bytes in
    let empty = stand_filled (LineGives g.A.Answers.gives) c.args.answers.now c.pieces.answers (g.S.Source.left c.args.input.now) (g.S.Source.left c.pieces.input) (g.S.Source.left c.fill.new.input) (g.K.Sink.taken c.args.out.now) (g.K.Sink.taken c.flush.new.out) c.pieces.reader c.fill.new.self [] came.0 c.pieces.number c.pieces.total c.in-Ok.count sent.stand came.1.leaves came.1.counted came.2 came.3 in
    let filled : Stand (LineGives g.A.Answers.gives) c.args.answers.now (g.S.Source.left c.args.input.now) (g.S.Source.left c.fill.new.input) (g.K.Sink.taken c.args.out.now) (g.K.Sink.taken c.flush.new.out) c.fill.new.self c.flush.new.self c.pieces.number (c.pieces.total + c.in-Ok.count) c.pieces.answers = subst (λ (w : List ℕ). Stand (LineGives g.A.Answers.gives) c.args.answers.now (g.S.Source.left c.args.input.now) (g.S.Source.left c.fill.new.input) (g.K.Sink.taken c.args.out.now) (g.K.Sink.taken c.flush.new.out) c.fill.new.self w c.pieces.number (c.pieces.total + c.in-Ok.count) c.pieces.answers) (sym c.in_default.ensures.none) empty in
    record {
      rested = c.in-Ok-answer_lines.ensures.sent c.args.answers.now (g.S.Source.left c.args.input.now) (g.S.Source.left c.fill.new.input) (g.K.Sink.taken c.args.out.now) (c.pieces.total + c.in-Ok.count) filled;
      within = c.if-total-gt-LIMIT.false;
      source = c.in-Ok.ensures.cause.steady ∙ c.pieces.invariant.source;
      sink = c.in-Ok-answer_lines.ensures.cause.steady ∙ (c.in_default.ensures.cause.steady ∙ c.pieces.invariant.sink);
    }
