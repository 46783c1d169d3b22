use Rattle.std.proofs.Common.{length, ◌-◌}
use Rattle.datagram450.proofs.CommonRun.{Run}
use Rattle.datagram450.proofs.line_iter.common_run.Given as goal

abbrev pub invariant-loop-place : goal.invariant-loop-place
invariant-loop-place l = Run l.wanted l.bytes l.place

abbrev pub decreases-loop-place : goal.decreases-loop-place
decreases-loop-place l = length l.wanted - l.place
