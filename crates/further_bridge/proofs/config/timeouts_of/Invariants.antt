-- The quantities that have been gone over have their timeouts.
use Rattle.std.proofs.Common.{◌≡◌, ℕ, ◌<◌, length, slice_index}
use Rattle.std.specs.Prelude.{map}
use Rattle.quantities.specs.About.{quantities_count}
use Rattle.further_bridge.proofs.config.timeouts_of.Given as goal

abbrev pub invariant-loop-number : goal.invariant-loop-number
invariant-loop-number l = record {
  long : length l.timeouts ≡ quantities_count;
  taken : (k : ℕ) → k < l.number → slice_index l.timeouts k ≡ slice_index (map (λ q. q.timeout_ms) l.each) k;
}
