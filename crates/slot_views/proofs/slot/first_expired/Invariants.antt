use Rattle.std.proofs.Common.{◌≡◌, take}
use Rattle.slot_views.specs.Slots.{has_expired}
use Rattle.slot_views.specs.Shelf.{NoneShows, quiet_of}
use Rattle.slot_views.proofs.slot.first_expired.Given as goal

abbrev pub invariant-loop-at : goal.invariant-loop-at
invariant-loop-at g l = record {
  none : NoneShows (has_expired l.moment) (take l.at l.slots.items);
  quiet : l.quiet_until ≡ quiet_of (take l.at l.slots.items);
}
