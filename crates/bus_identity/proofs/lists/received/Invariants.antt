-- What was added and what is left make up the whole.
use Rattle.std.proofs.Common.{◌≡◌, ◌+◌, ◌*◌, ◌≤◌, drop, length}
use Rattle.std.specs.List.{flat_map}
use Rattle.bus_identity.specs.PgnLists.{received_with, taken_by, with_groups}
use Rattle.bus_identity.proofs.lists.received.Given as goal

abbrev pub invariant-loop-row : goal.invariant-loop-row
invariant-loop-row l = record {
  whole : with_groups l.groups.items (flat_map taken_by (drop l.row-index l.rows)) ≡ received_with l.rows;
  few : length l.groups.items ≤ 5 + 2 * l.row-index;
}
