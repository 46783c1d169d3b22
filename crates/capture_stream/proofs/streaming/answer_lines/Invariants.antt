use Rattle.std.proofs.Common.{◌≡◌, ◌+◌, ◌<◌, ◌^◌, length}
use Rattle.capture_stream.specs.Answering.{LineGives}
use Rattle.capture_stream.specs.Progress.{Reaches}
use Rattle.capture_stream.proofs.streaming.answer_lines.Given as goal

abbrev pub invariant-lines : goal.invariant-lines
invariant-lines g l = record {
  fits : l.count + length l.reader.unread < 2 ^ 63;
  reaches : Reaches (LineGives g.A.Answers.gives) (g.K.Sink.taken l.fn.out) (g.K.Sink.taken l.out) l.fn.reader l.reader l.fn.writer l.writer l.fn.number l.count l.fn.answers l.answers;
  steady : g.K.Sink.fault_count l.out ≡ g.K.Sink.fault_count l.fn.out;
}

abbrev pub decreases-lines : goal.decreases-lines
decreases-lines g l = length l.reader.unread
