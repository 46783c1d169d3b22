use Rattle.std.proofs.Common.{ℕ, ◌+◌, refl, subst, ◌∙◌, arith}
use Rattle.gate_outside.specs.Faults.{Rose}
use Rattle.capture_stream.proofs.WriterLemmas.{partly_none, partly_more, partly_all, partly_stopped}
use Rattle.bridge.specs.Kept.{output_of}
use Rattle.replaying.specs.Replaying.{output_text, line_at}
use Rattle.replaying.proofs.SendingLemmas.{lines_at, next_line, no_line}
use Rattle.replaying.proofs.sending.send_each.Goals as goal

pub loop-place-init : goal.loop-place-init
loop-place-init g c = record { partly = partly_none (output_text c.args.moment c.args.bridge.now) c.args.writer.now (g.K.Sink.taken c.args.out.now); steady = refl }

pub loop-place-preserved : goal.loop-place-preserved
loop-place-preserved g c =
    let b = c.args.bridge.now in
    let m = c.args.moment in
    let i = c.loop-place.place in
    record {
      partly = partly_more (output_text m b) (lines_at m i (output_of b)) (lines_at m (i + 1) (output_of b)) c.args.writer.now (line_at m i b) (g.K.Sink.taken c.args.out.now)
          (g.K.Sink.taken c.loop-place.out) (g.K.Sink.taken c.send_at.new.out) c.loop-place.writer c.send_at.new.writer c.loop-place.invariant.partly
          (next_line m (output_of b) i) c.in-Ok.ensures.sent;
      steady = c.in-Ok.ensures.cause.steady ∙ c.loop-place.invariant.steady;
    }

pub returns-in-Err : goal.returns-in-Err
returns-in-Err g c =
    let b = c.args.bridge.now in
    let m = c.args.moment in
    let i = c.loop-place.place in
    let some = c.in-Err.ensures.sent in
    record {
      sent = partly_stopped (output_text m b) (lines_at m i (output_of b)) (lines_at m (i + 1) (output_of b)) c.args.writer.now (line_at m i b) (g.K.Sink.taken c.args.out.now)
          (g.K.Sink.taken c.loop-place.out) (g.K.Sink.taken c.send_at.new.out) c.loop-place.writer some.0 c.loop-place.invariant.partly (next_line m (output_of b) i) some.1;
      cause = record {
        never_falls = omega (arith, c.loop-place.invariant.steady, c.in-Err.ensures.cause.never_falls);
        rose = subst (λ (n : ℕ). Rose n (g.K.Sink.fault_count c.send_at.new.out)) c.loop-place.invariant.steady c.in-Err.ensures.cause.rose;
        steady = tt;
      };
    }

pub returns : goal.returns
returns g c =
    let b = c.args.bridge.now in
    let m = c.args.moment in
    let i = c.loop-place.place in
    record {
      sent = partly_all (output_text m b) (lines_at m i (output_of b)) c.args.writer.now (g.K.Sink.taken c.args.out.now) (g.K.Sink.taken c.loop-place.out) c.loop-place.writer
          c.loop-place.invariant.partly (no_line m (output_of b) i (omega arith));
      cause = record { never_falls = omega (arith, c.loop-place.invariant.steady); rose = tt; steady = c.loop-place.invariant.steady };
    }
