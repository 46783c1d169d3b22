use Rattle.std.proofs.Common.{◌≤◌, ◌++◌, ◌∙◌, ap, arith, vec_capacity}
use Rattle.std.proofs.lemmas.List.{get_or_default}
use Rattle.slot_views.specs.declared.slot.Slot.{Slot}
use Rattle.slot_views.specs.Shelf.{HasRoom}
use Rattle.slot_views.proofs.Lists.{all_remove, all_append, all_get}
use Rattle.slot_views.proofs.Order.{ordered_remove}
use Rattle.slot_views.proofs.Sound.{room_for_piece, finished_from}
use Rattle.slot_views.proofs.shelf.Shelf.retire.Given.{Over}
use Rattle.slot_views.proofs.shelf.Shelf.retire.Goals.{After-remove-bytes}
use Rattle.slot_views.proofs.shelf.Shelf.retire.Goals as goal

-- the slot that is taken out has the room that is kept for its pieces
room : (g : Over) (c : After-remove-bytes g) → HasRoom g.row.CAP g.row.PIECE c.remove-bytes.result
room g c = rw c.remove-bytes.ensures.value (all_get (HasRoom g.row.CAP g.row.PIECE) c.args.self.now.slots.items c.args.at c.remove-bytes.result c.requires.sound.rooms c.requires.in_range)

pub append-requires : goal.append-requires
append-requires g c = omega (arith, room_for_piece c.remove-bytes.result (room g ((goal.at.append-requires g c).After-remove-bytes)))

pub keep-requires : goal.keep-requires
keep-requires g c = omega arith

pub returns-clause-sound : goal.returns-clause-sound
returns-clause-sound g c =
    let reserved = (room g ((goal.at.returns-clause-sound g c).After-remove-bytes)).reserved in
    let roomy : g.row.CAP ≤ vec_capacity c.append.new.bytes = omega (arith, reserved) in
    record {
      limit_fits = c.requires.sound.limit_fits;
      cap_fits = c.requires.sound.cap_fits;
      buffers = omega arith;
      slots_reserved = omega arith;
      spare_reserved = omega arith;
      rooms = rw c.remove-bytes.ensures.items (all_remove _ c.args.self.now.slots.items c.args.at c.requires.sound.rooms);
      spare_rooms = rw c.keep.ensures.items (all_append _ c.args.self.now.spare.items _ c.requires.sound.spare_rooms (roomy, tt));
      ordered = rw c.remove-bytes.ensures.items (ordered_remove g.K.Ord.cmp c.args.self.now.slots.items c.args.at c.requires.sound.ordered);
      quiet = rw c.remove-bytes.ensures.items (all_remove _ c.args.self.now.slots.items c.args.at c.requires.sound.quiet);
    }

pub returns-clause-some : goal.returns-clause-some
returns-clause-some g c = omega arith

pub returns-clause-finished : goal.returns-clause-finished
returns-clause-finished g c = λ d.
    finished_from _ c.args.self.now.spare.items c.append.new.bytes _ c.keep.ensures.items (omega (arith, c.args.self.now.spare.ok.0))
    (c.append.ensures.items ∙ ap (λ (x : Slot g.row.K.Denot). x.bytes.items ++ c.args.rest.now) (c.remove-bytes.ensures.value ∙ get_or_default c.args.self.now.slots.items c.args.at c.remove-bytes.result d c.requires.in_range))
