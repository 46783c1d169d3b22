use Rattle.std.proofs.Common.{◌≡◌, ◌-◌, ◌≤◌}
use Rattle.capture_stream.specs.Answering.{LineGives}
use Rattle.capture_stream.specs.Progress.{input_limit, Rested}
use Rattle.capture_stream.proofs.streaming.answer_capture.Given as goal

abbrev pub invariant-pieces : goal.invariant-pieces
invariant-pieces g l = record {
  rested : Rested (LineGives g.A.Answers.gives) l.fn.answers (g.S.Source.left l.fn.input) (g.S.Source.left l.input) (g.K.Sink.taken l.fn.out) (g.K.Sink.taken l.out) l.reader l.writer l.number l.total l.answers;
  within : l.total ≤ input_limit;
  source : g.S.Source.fault_count l.input ≡ g.S.Source.fault_count l.fn.input;
  sink : g.K.Sink.fault_count l.out ≡ g.K.Sink.fault_count l.fn.out;
}

abbrev pub decreases-pieces : goal.decreases-pieces
decreases-pieces g l = input_limit - l.total
