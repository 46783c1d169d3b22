use Rattle.std.proofs.Common.{◌≡◌, ◌≢◌, Some, None, sym, ◌∙◌, ap, subst, refl, true, false, eq-eqb, arith}
use Rattle.std.proofs.lemmas.Bool.{ne_eqb}
use Rattle.slot_views.specs.Slots.{Entry, grown, entry_at, is_complete}
use Rattle.slot_views.specs.Shelf.{entry_of, entries_of, seen, HasRoom, HasFinished, Extends}
use Rattle.slot_views.proofs.Lists.{all_get}
use Rattle.slot_views.proofs.Order.{lookup_read, lookup_gap, removed_found, changed_found}
use Rattle.slot_views.proofs.Sound.{seen_is}
use Rattle.slot_views.proofs.Steps.{grown_absent, grown_other, grown_last, grown_more, on_entry}
use Rattle.slot_views.proofs.shelf.Shelf.grow.Given.{Over}
use Rattle.slot_views.proofs.shelf.Shelf.grow.Goals.{After-index-slot}
use Rattle.slot_views.proofs.shelf.Shelf.grow.Goals as goal

-- no entry was found
absent : (g : Over) (c : goal.In_default g) → entry_at g.K.Ord.cmp (seen c.args.self.now) c.args.place.key ≡ None
absent g c = lookup_gap g.K.Ord.cmp c.args.place.key c.args.self.now.slots.items _ c.in_default.ensures.absent.below c.in_default.ensures.absent.above

pub returns-in_default-clause-after : goal.returns-in_default-clause-after
returns-in_default-clause-after g c = grown_absent g.K.Ord.cmp (seen c.args.self.now) c.args.place.key c.args.next c.args.piece.now c.args.moment c.args.gap (absent g c)

pub returns-in_default-clause-answer : goal.returns-in_default-clause-answer
returns-in_default-clause-answer g c = absent g c

-- the entry that was found
abbrev entry : (g : Over) → After-index-slot g → Entry
entry g c = (entry_of c.index-slot.result.now).1

room : (g : Over) (c : After-index-slot g) → HasRoom g.row.CAP g.row.PIECE c.index-slot.result.now
room g c = rw c.index-slot.ensures (all_get (HasRoom g.row.CAP g.row.PIECE) c.args.self.now.slots.items c.in-Ok.at c.index-slot.result.now c.requires.sound.rooms c.in-Ok.ensures.found.in_range)

pub overflow_add-kept : goal.overflow_add-kept
overflow_add-kept g c = let there = room g ((goal.at.overflow_add-kept g c).After-index-slot) in omega (arith, there.awaits)

found : (g : Over) (c : After-index-slot g) → entry_at g.K.Ord.cmp (seen c.args.self.now) c.args.place.key ≡ Some (entry g c)
found g c = lookup_read g.K.Ord.cmp c.args.place.key c.args.self.now.slots.items c.in-Ok.at c.index-slot.result.now c.in-Ok.ensures.found c.index-slot.ensures

pub returns-then-kept-next-clause-after : goal.returns-then-kept-next-clause-after
returns-then-kept-next-clause-after g c =
    let s = (goal.at.returns-then-kept-next-clause-after g c).After-index-slot in
    seen_is c.args.self.now c.retire.new.self _ c.retire.ensures.limit (ap entries_of c.retire.ensures.slots ∙ sym (removed_found g.K.Ord.cmp c.args.place.key c.args.self.now.slots.items c.in-Ok.at c.in-Ok.ensures.found))
    ∙ grown_other g.K.Ord.cmp (seen c.args.self.now) c.args.place.key c.args.next c.args.piece.now c.args.moment c.args.gap (entry g s) (found g s) c.if-kept-next.true

pub returns-then-kept-next-clause-answer : goal.returns-then-kept-next-clause-answer
returns-then-kept-next-clause-answer g c =
    let s = (goal.at.returns-then-kept-next-clause-answer g c).After-index-slot in
    on_entry g.K.Ord.cmp (seen c.args.self.now) c.args.place.key (λ e. (c.index-slot.result.now.next ≡ e.next) × (e.next ≢ c.args.next)) (entry g s) (found g s) (refl, c.if-kept-next.true)

pub returns-then-kept-need-clause-after : goal.returns-then-kept-need-clause-after
returns-then-kept-need-clause-after g c =
    let s = (goal.at.returns-then-kept-need-clause-after g c).After-index-slot in
    seen_is c.args.self.now c.retire-then-kept-need.new.self _ c.retire-then-kept-need.ensures.limit (ap entries_of c.retire-then-kept-need.ensures.slots ∙ sym (removed_found g.K.Ord.cmp c.args.place.key c.args.self.now.slots.items c.in-Ok.at c.in-Ok.ensures.found))
    ∙ grown_last g.K.Ord.cmp (seen c.args.self.now) c.args.place.key c.args.next c.args.piece.now c.args.moment c.args.gap (entry g s) (found g s) c.if-kept-next.false c.if-kept-need.true

pub returns-then-kept-need-clause-answer : goal.returns-then-kept-need-clause-answer
returns-then-kept-need-clause-answer g c =
    let s = (goal.at.returns-then-kept-need-clause-answer g c).After-index-slot in
    on_entry g.K.Ord.cmp (seen c.args.self.now) c.args.place.key
    (λ e. (e.next ≡ c.args.next) × (is_complete (grown e c.args.piece.now c.args.moment c.args.gap) ≡ true) × HasFinished c.retire-then-kept-need.new.self (grown e c.args.piece.now c.args.moment c.args.gap).bytes × (c.index-slot.result.now.mark ≡ e.mark))
    (entry g s) (found g s)
    (c.if-kept-next.false, eq-eqb _ _ c.if-kept-need.true, rw c.index-slot.ensures (c.retire-then-kept-need.ensures.finished c.index-slot.result.now), refl)

pub returns-clause-after : goal.returns-clause-after
returns-clause-after g c =
    let s = (goal.at.returns-clause-after g c).After-index-slot in
    seen_is c.args.self.now c.extend.new.self _ c.extend.ensures.limit (sym (changed_found g.K.Ord.cmp c.args.place.key c.args.self.now.slots.items c.extend.new.self.slots.items c.in-Ok.at c.index-slot.result.now (grown (entry g s) c.args.piece.now c.args.moment c.args.gap) c.in-Ok.ensures.found
    (subst (λ x. Extends c.args.self.now.slots.items c.extend.new.self.slots.items c.in-Ok.at (grown (entry_of x).1 c.args.piece.now c.args.moment c.args.gap)) (sym c.index-slot.ensures) (c.extend.ensures.entries c.index-slot.result.now))))
    ∙ grown_more g.K.Ord.cmp (seen c.args.self.now) c.args.place.key c.args.next c.args.piece.now c.args.moment c.args.gap (entry g s) (found g s) c.if-kept-next.false c.if-kept-need.false

pub returns-clause-answer : goal.returns-clause-answer
returns-clause-answer g c =
    let s = (goal.at.returns-clause-answer g c).After-index-slot in
    on_entry g.K.Ord.cmp (seen c.args.self.now) c.args.place.key (λ e. (e.next ≡ c.args.next) × (is_complete (grown e c.args.piece.now c.args.moment c.args.gap) ≡ false)) (entry g s) (found g s) (c.if-kept-next.false, ne_eqb _ _ c.if-kept-need.false)
