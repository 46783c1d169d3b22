-- The rows that have been gone over have their timeouts.
use Rattle.std.proofs.Common.{◌≡◌, ℕ, ◌<◌, length, slice_index_or}
use Rattle.history.specs.Settings.{rule_at}
use Rattle.readings.specs.Rows.{rows_count}
use Rattle.config_values.specs.Settings.{settings_by}
use Rattle.gate_core.proofs.state.opening.timeouts_of.Given as goal

abbrev pub invariant-loop-row : goal.invariant-loop-row
invariant-loop-row l = record {
  long : length l.timeouts ≡ rows_count;
  taken : (k : ℕ) → k < l.row → slice_index_or l.timeouts k 0 ≡ (rule_at (settings_by l.config).rows k).timeout;
}
