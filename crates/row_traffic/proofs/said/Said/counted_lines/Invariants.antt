-- The rows that have been gone over are counted.
use Rattle.std.proofs.Common.{◌≡◌, ℕ, ◌<◌, length, slice_index_or}
use Rattle.tag_block.specs.Tag.{most_count}
use Rattle.gate_model.specs.Said.{lines_more}
use Rattle.readings.specs.Rows.{rows_count}
use Rattle.config_values.specs.Settings.{settings_by}
use Rattle.row_traffic.proofs.said.Said.counted_lines.Given as goal

abbrev pub invariant-loop-number : goal.invariant-loop-number
invariant-loop-number l = record {
  long : length l.lines ≡ rows_count;
  counted : (k : ℕ) → k < l.number → slice_index_or l.lines k 0 ≡ lines_more (settings_by l.config) l.self l.group l.count k;
  small : (k : ℕ) → k < l.number → slice_index_or l.lines k 0 < most_count;
}
