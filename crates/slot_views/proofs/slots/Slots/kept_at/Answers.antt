use Rattle.std.proofs.Common.{sym, ap, option_map}
use Rattle.slot_views.specs.Answers.{kept_of}
use Rattle.slot_views.proofs.Order.{lookup_gap}
use Rattle.slot_views.proofs.Steps.{told_found}
use Rattle.slot_views.proofs.slots.Slots.kept_at.Goals as goal

pub returns-in-Ok : goal.returns-in-Ok
returns-in-Ok g c = rw (← c.self.view_is) (told_found g.K.Ord.cmp c.args.place.key kept_of c.self.inside.shelf.slots.items c.in-Ok.at c.kept.result c.in-Ok.ensures.found c.kept.ensures)

pub returns-in-Err : goal.returns-in-Err
returns-in-Err g c = rw (← c.self.view_is) (sym (ap (option_map kept_of) (lookup_gap g.K.Ord.cmp c.args.place.key c.self.inside.shelf.slots.items _ c.in-Err.ensures.absent.below c.in-Err.ensures.absent.above)))
