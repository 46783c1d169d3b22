use Rattle.std.proofs.Common.{◌≤◌, ◌-◌, length}
use Rattle.slot_views.specs.Places.{Below, Above}
use Rattle.slot_views.specs.Shelf.{entries_of}
use Rattle.slot_views.proofs.shelf.Shelf.search.Given as goal

abbrev pub invariant-loop-low : goal.invariant-loop-low
invariant-loop-low g l = record {
  ordered : l.low ≤ l.high;
  in_range : l.high ≤ length l.self.slots.items;
  below : Below g.K.Ord.cmp l.key (entries_of l.self.slots.items) l.low;
  above : Above g.K.Ord.cmp l.key (entries_of l.self.slots.items) l.high;
}

abbrev pub decreases-loop-low : goal.decreases-loop-low
decreases-loop-low g l = l.high - l.low
