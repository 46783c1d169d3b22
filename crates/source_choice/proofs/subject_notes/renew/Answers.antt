use Rattle.std.proofs.Common.{◌∙◌, arith}
use Rattle.source_choice.proofs.NoteLemmas.{from_with, insert_at, room_at, set_at}
use Rattle.source_choice.proofs.subject_notes.renew.Goals as goal

pub index_mut-requires : goal.index_mut-requires
index_mut-requires c = let here = (c.is_at.ensures.here c.if-is_at.true c.args.note).0 in omega (arith, here, c.deref-2.ensures.len)

pub put-requires-clause-room : goal.put-requires-clause-room
put-requires-clause-room c =
    let few = room_at c.args.sources c.args.note c.place_of-place.result c.args.notes.now.items c.deref.result.now c.deref-2.result.now c.deref.ensures.value c.deref-2.ensures.value c.place_of-place.ensures.place c.requires.below c.requires.kept (c.is_at.ensures.elsewhere c.if-is_at.false) in
    omega (arith, few, c.requires.room)

pub returns-then-is_at-clause-items : goal.returns-then-is_at-clause-items
returns-then-is_at-clause-items c = grind (arith, set_at)

pub returns-then-is_at-clause-kept : goal.returns-then-is_at-clause-kept
returns-then-is_at-clause-kept c = grind (arith, set_at, from_with)

pub returns-else-is_at-clause-items : goal.returns-else-is_at-clause-items
returns-else-is_at-clause-items c =
    c.put.ensures.items ∙ insert_at c.args.note c.place_of-place.result c.args.notes.now.items c.deref.result.now c.deref-2.result.now c.deref.ensures.value c.deref-2.ensures.value c.place_of-place.ensures.place (c.is_at.ensures.elsewhere c.if-is_at.false)

pub returns-else-is_at-clause-kept : goal.returns-else-is_at-clause-kept
returns-else-is_at-clause-kept c = grind (arith, insert_at, from_with)
