use Rattle.std.proofs.Common.{◌≡◌, ◌≤◌, ◌++◌, drop, length}
use Rattle.row_watch.specs.WatchKept.{opened_rows}
use Rattle.row_watch.specs.WatchRule.{watched_of}
use Rattle.row_watch.proofs.row_watch.rows_of.Given as goal

abbrev pub invariant-loop-row : goal.invariant-loop-row
invariant-loop-row l = record {
  found : l.rows.items ++ opened_rows (watched_of l.config.limits (drop l.row-index l.all)) ≡ opened_rows (watched_of l.config.limits l.all);
  few : length l.rows.items ≤ l.row-index;
}
