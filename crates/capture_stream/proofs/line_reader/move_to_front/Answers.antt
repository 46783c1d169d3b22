use Rattle.std.proofs.Common.{arith}
use Rattle.capture_stream.proofs.Moves.{moved_more, rest_more}
use Rattle.capture_stream.proofs.line_reader.move_to_front.Goals as goal

pub loop-i-preserved : goal.loop-i-preserved
loop-i-preserved c = record {
  moved = moved_more c.loop-i.buffer c.args.buffer.now c.args.from c.loop-i.i (omega arith) (omega arith) c.loop-i.invariant.moved c.loop-i.invariant.rest;
  rest = rest_more c.loop-i.buffer c.args.buffer.now c.loop-i.i _ (omega arith) c.loop-i.invariant.rest;
}
