use Rattle.slot_views.proofs.Places.{not_below_found, not_below_gap}
use Rattle.slot_views.proofs.shelf.Shelf.lowest_from.Goals as goal

pub returns-in-Ok-clause-not_below : goal.returns-in-Ok-clause-not_below
returns-in-Ok-clause-not_below g c = not_below_found g.met.K.Ord.total c.args.low c.args.self.now.slots.items c.in-Ok.at c.requires c.in-Ok.ensures.found

pub returns-in-Err-clause-not_below : goal.returns-in-Err-clause-not_below
returns-in-Err-clause-not_below g c = not_below_gap g.met.K.Ord.total c.args.low c.args.self.now.slots.items c.in-Err.at c.in-Err.ensures.absent.above
