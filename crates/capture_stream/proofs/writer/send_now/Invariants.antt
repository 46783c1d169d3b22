use Rattle.std.proofs.Common.{◌≡◌, length}
use Rattle.capture_stream.specs.Writer.{Sends}
use Rattle.capture_stream.proofs.writer.send_now.Given as goal

abbrev pub invariant-loop-rest : goal.invariant-loop-rest
invariant-loop-rest g l = record {
  sent : Sends (g.K.Sink.taken l.fn.out) (g.K.Sink.taken l.out) l.fn.piece l.rest;
  steady : g.K.Sink.fault_count l.out ≡ g.K.Sink.fault_count l.fn.out;
}

abbrev pub decreases-loop-rest : goal.decreases-loop-rest
decreases-loop-rest g l = length l.rest
