use Rattle.std.proofs.Common.{◌≡◌, ◌+◌, ◌++◌, length}
use Rattle.fast_packet.specs.FastRuns.{frames_to}
use Rattle.fast_packet.proofs.splitting.append.Given as goal

abbrev pub invariant-loop-before : goal.invariant-loop-before
invariant-loop-before l = record {
  frames : l.out.items ≡ l.fn.out.items ++ frames_to l.sequence l.payload l.before;
  count : length l.out.items ≡ length l.fn.out.items + l.before + 1;
}
