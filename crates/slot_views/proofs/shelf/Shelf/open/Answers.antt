use Rattle.std.proofs.Common.{◌≡◌, ◌+◌, ◌≤◌, refl, arith, vec_len, vec_capacity}
use Rattle.slot_views.specs.declared.slot.Slot.{Slot}
use Rattle.slot_views.proofs.Order.{insert_gap}
use Rattle.slot_views.proofs.Sound.{slot_map_is, sound_opened, room_opened, popped}
use Rattle.slot_views.proofs.shelf.Shelf.open.Given.{Over}
use Rattle.slot_views.proofs.shelf.Shelf.open.Goals.{After-refill}
use Rattle.slot_views.proofs.shelf.Shelf.open.Goals as goal

-- the slot that came
abbrev slot_of : (g : Over) → After-refill g → Slot g.row.K.Denot
slot_of g c = record { key = c.args.key; bytes = c.refill.new.bytes; next = 1; need = c.args.start.need; last = c.args.start.moment; gap = c.args.start.gap; mark = c.args.start.mark }

pub returns-clause-sound : goal.returns-clause-sound
returns-clause-sound g c =
    let parts = popped (λ b. g.row.CAP ≤ vec_capacity b) c.args.self.now.spare.items c.pop.new.self.items c.pop.result c.unwrap-bytes.result c.pop.ensures.items c.unwrap-bytes.ensures c.requires.sound.spare_rooms in
    let reserved : g.row.CAP ≤ vec_capacity c.refill.new.bytes = omega (arith, parts.1, c.refill.ensures.capacity) in
    let fewer : vec_len c.pop.new.self + 1 ≡ vec_len c.args.self.now.spare = grind (arith, c.pop.ensures.len, c.unwrap-bytes.ensures) in
    sound_opened g.met.K.Ord.total c.args.self.now _ c.args.at (slot_of g ((goal.at.returns-clause-sound g c).After-refill))
    c.requires.sound c.requires.gap (room_opened (slot_of g ((goal.at.returns-clause-sound g c).After-refill)) c.args.piece.now reserved refl c.requires.more c.refill.ensures.len c.requires.piece_fits c.requires.message_fits)
    (omega (arith, c.still_quiet-self.ensures)) (omega (arith, c.still_quiet-self.ensures)) refl c.put.ensures.items c.put.ensures.len c.put.ensures.capacity fewer (omega arith) parts.0

pub returns-clause-after : goal.returns-clause-after
returns-clause-after g c = grind (arith, slot_map_is, insert_gap)
