-- The rows that have been gone over have their timeouts.
use Rattle.std.proofs.Common.{◌≡◌, ℕ, ◌<◌, length, slice_index}
use Rattle.std.specs.Prelude.{map}
use Rattle.readings.specs.Rows.{rows_count}
use Rattle.joined_rmc.proofs.joining.timeouts_of.Given as goal

abbrev pub invariant-loop-row : goal.invariant-loop-row
invariant-loop-row l = record {
  long : length l.timeouts ≡ rows_count;
  taken : (k : ℕ) → k < l.row → slice_index l.timeouts k ≡ slice_index (map (λ r. r.timeout_ms) l.rows) k;
}
