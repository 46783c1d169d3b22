-- What is written and what is left make up the whole.
use Rattle.std.proofs.Common.{◌≡◌, ◌+◌, ◌≤◌, ◌++◌, length}
use Rattle.ais_report.specs.Bits.{bits_of}
use Rattle.ais_report.proofs.bits.append_bits.Given as goal

abbrev pub invariant-loop-left : goal.invariant-loop-left
invariant-loop-left l = record {
  whole : l.out.items ++ bits_of l.left l.number ≡ l.initial.out.items ++ bits_of l.width l.number;
  width : l.left ≤ l.width;
  room : length l.out.items + l.left ≤ 168;
}

abbrev pub decreases-loop-left : goal.decreases-loop-left
decreases-loop-left l = l.left
