use Rattle.std.proofs.Common.{ℕ, ◌+◌, ◌≤◌, List, length, refl, subst, ◌∙◌, arith}
use Rattle.capture_stream.specs.Answering.{LineGives}
use Rattle.capture_stream.specs.Lines.{IsTextFrom}
use Rattle.capture_text.specs.Lines.{complete_lines}
use Rattle.capture_stream.specs.Progress.{WritesSome}
use Rattle.gate_outside.specs.Faults.{Rose}
use Rattle.capture_stream.proofs.StandLemmas.{stand_waiting}
use Rattle.capture_stream.proofs.DueLemmas.{line_done, line_stopped, fewer_unread, is_taken}
use Rattle.capture_stream.proofs.streaming.answer_lines.Goals as goal

pub lines-init : goal.lines-init
lines-init g c = record {
  fits = omega arith;
  reaches = λ first left left' told size s. (s, refl);
  steady = refl;
}

pub lines-preserved : goal.lines-preserved
lines-preserved g c =
    let next = c.advance-next in
    let taken = is_taken next.result c.in_default.not-Unfinished in
    let fewer : length next.new.self.unread + 1 ≤ length c.lines.reader.unread = fewer_unread c.lines.reader next.new.self next.result next.ensures taken in
    record {
      fits = omega (arith, c.lines.invariant.fits, fewer);
      reaches = λ first left left' told size s.
          let put = c.in-Ok.ensures.sent in
          let t = c.lines.invariant.reaches first left left' told size s in
          let u = line_done g.A.Answers.gives first c.lines.answers c.send_next.new.answers left left' told (g.K.Sink.taken c.lines.out) (g.K.Sink.taken c.send_next.new.out) c.lines.reader next.new.self c.lines.writer c.send_next.new.writer put.0 c.lines.count size next.result t.0 next.ensures taken put.1 put.2 in
          (u.0, u.1 ∙ t.1);
      steady = c.in-Ok.ensures.cause.steady ∙ c.lines.invariant.steady;
    }

pub lines-smaller : goal.lines-smaller
lines-smaller g c = let fewer : length c.advance-next.new.self.unread + 1 ≤ length c.lines.reader.unread = fewer_unread c.lines.reader c.advance-next.new.self c.advance-next.result c.advance-next.ensures (is_taken c.advance-next.result c.in_default.not-Unfinished) in omega arith

pub returns-in-Unfinished-clause-sent : goal.returns-in-Unfinished-clause-sent
returns-in-Unfinished-clause-sent g c = λ first left left' told size s.
    let t = c.lines.invariant.reaches first left left' told size s in
    stand_waiting (LineGives g.A.Answers.gives) first c.lines.answers left left' told (g.K.Sink.taken c.lines.out) c.lines.reader c.advance-next.new.self c.lines.writer c.lines.count size t.0 c.in-Unfinished.ensures

pub returns-in-Err : goal.returns-in-Err
returns-in-Err g c = record {
  sent = λ first left left' told size s.
      let t = c.lines.invariant.reaches first left left' told size s in
      let put = c.in-Err.ensures.sent in
      let next = c.advance-next in
      let taken = is_taken next.result c.in_default.not-Unfinished in
      subst (λ (r : List ℕ). WritesSome (IsTextFrom (LineGives g.A.Answers.gives) first) told (g.K.Sink.taken c.send_next.new.out) (complete_lines r)) t.1
      (line_stopped g.A.Answers.gives first c.lines.answers put.1 left left' told (g.K.Sink.taken c.lines.out) (g.K.Sink.taken c.send_next.new.out) c.lines.reader next.new.self c.lines.writer put.3 put.0 c.lines.count size next.result t.0 next.ensures taken put.2 put.4);
  cause = record {
    never_falls = omega (arith, c.lines.invariant.steady, c.in-Err.ensures.cause.never_falls);
    rose = subst (λ (n : ℕ). Rose n (g.K.Sink.fault_count c.send_next.new.out)) c.lines.invariant.steady c.in-Err.ensures.cause.rose;
    steady = tt;
  };
}
