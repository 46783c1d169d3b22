-- The lines before the place were sent, and no call failed.
use Rattle.std.proofs.Common.{◌≡◌}
use Rattle.capture_stream.proofs.WriterLemmas.{Partly}
use Rattle.bridge.specs.Kept.{output_of}
use Rattle.replaying.specs.Replaying.{output_text}
use Rattle.replaying.proofs.SendingLemmas.{lines_at}
use Rattle.replaying.proofs.sending.send_each.Given as goal

abbrev pub invariant-loop-place : goal.invariant-loop-place
invariant-loop-place g l = record {
  partly : Partly (output_text l.fn.moment l.fn.bridge) (lines_at l.fn.moment l.place (output_of l.fn.bridge)) l.fn.writer (g.K.Sink.taken l.fn.out) (g.K.Sink.taken l.out) l.writer;
  steady : g.K.Sink.fault_count l.out ≡ g.K.Sink.fault_count l.fn.out;
}
