-- What was added and what is left make up the whole.
use Rattle.std.proofs.Common.{◌≡◌, ◌+◌, ◌≤◌, drop, length}
use Rattle.bus_identity.specs.PgnLists.{with_groups}
use Rattle.bus_identity.proofs.lists.add_all.Given as goal

abbrev pub invariant-loop-pgn : goal.invariant-loop-pgn
invariant-loop-pgn l = record {
  whole : with_groups l.groups.items (drop l.pgn-index l.pgns) ≡ with_groups l.initial.groups.items l.pgns;
  few : length l.groups.items ≤ length l.initial.groups.items + l.pgn-index;
}
