use Rattle.std.proofs.Common.{refl, arith}
use Rattle.slot_views.specs.Slots.{grown}
use Rattle.slot_views.specs.Shelf.{HasRoom}
use Rattle.slot_views.proofs.Lists.{all_get}
use Rattle.slot_views.proofs.Sound.{room_for_piece, sound_extended, extends_from}
use Rattle.slot_views.proofs.shelf.Shelf.extend.Given.{Over}
use Rattle.slot_views.proofs.shelf.Shelf.extend.Goals.{After-index_mut-slot}
use Rattle.slot_views.proofs.shelf.Shelf.extend.Goals as goal

-- the slot has the room that is kept for its pieces
room : (g : Over) (c : After-index_mut-slot g) → HasRoom g.row.CAP g.row.PIECE c.index_mut-slot.result.now
room g c = rw c.index_mut-slot.ensures.value (all_get (HasRoom g.row.CAP g.row.PIECE) c.args.self.now.slots.items c.args.at c.index_mut-slot.result.now c.requires.sound.rooms c.requires.in_range)

pub join-requires : goal.join-requires
join-requires g c =
    let there = room g ((goal.at.join-requires g c).After-index_mut-slot) in
    record { room = omega (arith, room_for_piece c.index_mut-slot.result.now there); awaits = there.awaits }

pub returns-clause-sound : goal.returns-clause-sound
returns-clause-sound g c =
    sound_extended c.args.self.now _ c.args.at c.index_mut-slot.result.now c.join.new.slot c.args.piece.now c.args.moment c.args.gap c.requires.sound (room g ((goal.at.returns-clause-sound g c).After-index_mut-slot))
    c.index_mut-slot.ensures.value (c.requires.more c.index_mut-slot.result.now) c.requires.piece_fits c.join.ensures.entry c.join.ensures.capacity c.join.ensures.len
    (omega (arith, c.still_quiet-self.ensures)) (omega (arith, c.still_quiet-self.ensures)) refl refl refl (omega arith) refl

pub returns-clause-entries : goal.returns-clause-entries
returns-clause-entries g c =
    extends_from c.args.self.now.slots.items c.args.at c.join.new.slot c.index_mut-slot.result.now (λ e. grown e c.args.piece.now c.args.moment c.args.gap)
    c.requires.in_range c.index_mut-slot.ensures.value c.join.ensures.entry
