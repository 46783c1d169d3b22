use Rattle.std.proofs.Common.{◌≡◌, take, drop}
use Rattle.capture_stream.proofs.line_reader.move_to_front.Given as goal

abbrev pub invariant-loop-i : goal.invariant-loop-i
invariant-loop-i l = record {
  moved : take l.i l.buffer ≡ take l.i (drop l.from l.initial.buffer);
  rest : drop l.i l.buffer ≡ drop l.i l.initial.buffer;
}
