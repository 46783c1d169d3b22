use Rattle.std.proofs.Common.{refl, sym, ap, ◌∙◌, is_some}
use Rattle.slot_views.specs.Shelf.{entries_of}
use Rattle.slot_views.proofs.Places.{gap_removed}
use Rattle.slot_views.proofs.Order.{removed_found, held_found, lookup_gap, remove_gap}
use Rattle.slot_views.proofs.Sound.{seen_is}
use Rattle.slot_views.proofs.shelf.Shelf.vacate.Goals as goal

pub returns-in-Ok-clause-after : goal.returns-in-Ok-clause-after
returns-in-Ok-clause-after g c =
    seen_is c.args.self.now c.retire.new.self _ c.retire.ensures.limit
    (ap entries_of c.retire.ensures.slots ∙ sym (removed_found g.K.Ord.cmp c.args.place.key c.args.self.now.slots.items c.in-Ok.at c.in-Ok.ensures.found))

pub returns-in-Ok-clause-replaced : goal.returns-in-Ok-clause-replaced
returns-in-Ok-clause-replaced g c = sym (held_found g.K.Ord.cmp c.args.place.key c.args.self.now.slots.items c.in-Ok.at c.in-Ok.ensures.found)

pub returns-in-Ok-clause-gap : goal.returns-in-Ok-clause-gap
returns-in-Ok-clause-gap g c = rw c.retire.ensures.slots (gap_removed g.met.K.Ord.total c.args.place.key c.args.self.now.slots.items c.in-Ok.at c.requires.sound.ordered c.in-Ok.ensures.found)

pub returns-in-Ok-clause-room : goal.returns-in-Ok-clause-room
returns-in-Ok-clause-room g c = λ _. c.retire.ensures.some

pub returns-in-Err-clause-after : goal.returns-in-Err-clause-after
returns-in-Err-clause-after g c =
    seen_is c.args.self.now c.args.self.now _ refl (sym (remove_gap g.K.Ord.cmp c.args.place.key c.args.self.now.slots.items c.in-Err.at c.in-Err.ensures.absent.below c.in-Err.ensures.absent.above))

pub returns-in-Err-clause-replaced : goal.returns-in-Err-clause-replaced
returns-in-Err-clause-replaced g c = sym (ap is_some (lookup_gap g.K.Ord.cmp c.args.place.key c.args.self.now.slots.items c.in-Err.at c.in-Err.ensures.absent.below c.in-Err.ensures.absent.above))
