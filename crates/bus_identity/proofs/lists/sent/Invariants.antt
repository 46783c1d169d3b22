-- What was added and what is left make up the whole.
use Rattle.std.proofs.Common.{◌≡◌, ◌+◌, ◌≤◌, drop, length}
use Rattle.std.specs.List.{flat_map}
use Rattle.bus_identity.specs.PgnLists.{sent_with, sent_by, with_groups}
use Rattle.bus_identity.proofs.lists.sent.Given as goal

abbrev pub invariant-loop-row : goal.invariant-loop-row
invariant-loop-row l = record {
  whole : with_groups l.groups.items (flat_map sent_by (drop l.row-index l.rows)) ≡ sent_with l.rows;
  few : length l.groups.items ≤ 6 + l.row-index;
}
