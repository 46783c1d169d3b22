use Rattle.std.proofs.Common.{ℕ, ◌+◌, List, [], drop, get_or, refl, subst, ◌∙◌, arith}
use Rattle.std.specs.Borrow.{Bor}
use Rattle.gate_outside.specs.Faults.{Rose}
use Rattle.capture_stream.proofs.WriterLemmas.{pieces_text, partly_none, partly_more, partly_all, partly_stopped, next_piece, no_piece}
use Rattle.capture_stream.proofs.writer.Writer.send_all.Goals as goal

pub loop-piece-init : goal.loop-piece-init
loop-piece-init g c = record { partly = partly_none (pieces_text c.args.pieces.now) c.args.self.now (g.K.Sink.taken c.args.out.now); steady = refl }

pub loop-piece-preserved : goal.loop-piece-preserved
loop-piece-preserved g c =
    let pieces = c.args.pieces.now in
    let i = c.loop-piece.piece-index in
    let other : Bor (List ℕ) = record { ref_ptr = (0, 0); now = [] } in
    record {
      partly = partly_more (pieces_text pieces) (pieces_text (drop i pieces)) (pieces_text (drop (i + 1) pieces)) c.args.self.now (get_or pieces i other).now (g.K.Sink.taken c.args.out.now) (g.K.Sink.taken c.loop-piece.out) (g.K.Sink.taken c.send.new.out) c.loop-piece.self c.send.new.self c.loop-piece.invariant.partly
          (next_piece pieces i other c.loop-piece-test.true) c.in-Ok.ensures.sent;
      steady = c.in-Ok.ensures.cause.steady ∙ c.loop-piece.invariant.steady;
    }

pub returns-in-Err : goal.returns-in-Err
returns-in-Err g c =
    let pieces = c.args.pieces.now in
    let i = c.loop-piece.piece-index in
    let other : Bor (List ℕ) = record { ref_ptr = (0, 0); now = [] } in
    let some = c.in-Err.ensures.sent in
    record {
      sent = partly_stopped (pieces_text pieces) (pieces_text (drop i pieces)) (pieces_text (drop (i + 1) pieces)) c.args.self.now (get_or pieces i other).now (g.K.Sink.taken c.args.out.now) (g.K.Sink.taken c.loop-piece.out) (g.K.Sink.taken c.send.new.out) c.loop-piece.self some.0 c.loop-piece.invariant.partly
          (next_piece pieces i other c.loop-piece-test.true) some.1;
      cause = record {
        never_falls = omega (arith, c.loop-piece.invariant.steady, c.in-Err.ensures.cause.never_falls);
        rose = subst (λ (n : ℕ). Rose n (g.K.Sink.fault_count c.send.new.out)) c.loop-piece.invariant.steady c.in-Err.ensures.cause.rose;
        steady = tt;
      };
    }

pub returns : goal.returns
returns g c = record {
  sent = partly_all (pieces_text c.args.pieces.now) (pieces_text (drop c.loop-piece.piece-index c.args.pieces.now)) c.args.self.now (g.K.Sink.taken c.args.out.now) (g.K.Sink.taken c.loop-piece.out) c.loop-piece.self c.loop-piece.invariant.partly
      (no_piece c.args.pieces.now c.loop-piece.piece-index (omega arith));
  cause = record { never_falls = omega (arith, c.loop-piece.invariant.steady); rose = tt; steady = c.loop-piece.invariant.steady };
}
