use Rattle.std.proofs.Common.{◌≡◌, ◌≢◌, ℕ, eqb, ◌+◌, ◌<◌, length, vec_len, sym, ◌∙◌, ap, true, false, eq-eqb, arith}
use Rattle.std.proofs.lemmas.Bool.{eqb-true, eqb-false, ne_eqb}
use Rattle.slot_views.specs.Slots.{Entry, opened, added, is_full}
use Rattle.slot_views.specs.Shelf.{entries_of, seen}
use Rattle.slot_views.proofs.Sound.{count_seen}
use Rattle.slot_views.proofs.Steps.{full_from, room_from, begun_full, begun_complete, begun_held}
use Rattle.slot_views.proofs.shelf.Shelf.begin.Given.{Over}
use Rattle.slot_views.proofs.shelf.Shelf.begin.Goals.{After-vacate-at}
use Rattle.slot_views.proofs.shelf.Shelf.begin.Goals as goal

-- the entry as it opens
abbrev entry : (g : Over) → After-vacate-at g → Entry
entry g c = opened c.args.piece.now c.args.start.need c.args.start.moment c.args.start.gap c.args.start.mark

-- every buffer is a slot's or spare
sum : (g : Over) (c : After-vacate-at g) → length (entries_of c.vacate-at.new.self.slots.items) + vec_len c.vacate-at.new.self.spare ≡ c.vacate-at.new.self.limit
sum g c = rw (count_seen c.vacate-at.new.self) c.vacate-at.ensures.sound.buffers

-- a buffer is spare
left : (spare : ℕ) → false ≡ eqb spare 0 → 0 < spare
left spare some = let other : spare ≢ 0 = eqb-false spare 0 (sym some) in omega arith

full : (g : Over) (c : After-vacate-at g) → vec_len c.vacate-at.new.self.spare ≡ 0 → (is_full g.K.Ord.cmp (seen c.args.self.now) c.args.place.key ≡ true) × (seen c.vacate-at.new.self ≡ seen c.args.self.now)
full g c empty =
    full_from g.K.Ord.cmp (seen c.args.self.now) c.args.place.key (seen c.vacate-at.new.self) c.vacate-at.result.replaced (vec_len c.vacate-at.new.self.spare)
    c.vacate-at.ensures.after c.vacate-at.ensures.replaced c.vacate-at.ensures.room (sum g c) empty

room : (g : Over) (c : After-vacate-at g) → 0 < vec_len c.vacate-at.new.self.spare → is_full g.K.Ord.cmp (seen c.args.self.now) c.args.place.key ≡ false
room g c some =
    room_from g.K.Ord.cmp (seen c.args.self.now) c.args.place.key (seen c.vacate-at.new.self) c.vacate-at.result.replaced (vec_len c.vacate-at.new.self.spare)
    c.vacate-at.ensures.after c.vacate-at.ensures.replaced (sum g c) some

pub returns-then-is_empty-clause-after : goal.returns-then-is_empty-clause-after
returns-then-is_empty-clause-after g c =
    let s = (goal.at.returns-then-is_empty-clause-after g c).After-vacate-at in
    let all = full g s (eqb-true _ _ (sym c.if-is_empty.ensures)) in
    all.1 ∙ begun_full g.K.Ord.cmp (seen c.args.self.now) c.args.place.key (entry g s) all.0

pub returns-then-is_empty-clause-answer : goal.returns-then-is_empty-clause-answer
returns-then-is_empty-clause-answer g c = (full g ((goal.at.returns-then-is_empty-clause-answer g c).After-vacate-at) (eqb-true _ _ (sym c.if-is_empty.ensures))).0

pub returns-then-start-eq1-clause-after : goal.returns-then-start-eq1-clause-after
returns-then-start-eq1-clause-after g c =
    let s = (goal.at.returns-then-start-eq1-clause-after g c).After-vacate-at in
    c.finish.ensures.same ∙ (c.vacate-at.ensures.after ∙ begun_complete g.K.Ord.cmp (seen c.args.self.now) c.args.place.key (entry g s) (room g s (left _ c.if-is_empty.ensures)) (sym c.if-start-eq1.true))

pub returns-then-start-eq1-clause-answer : goal.returns-then-start-eq1-clause-answer
returns-then-start-eq1-clause-answer g c =
    let s = (goal.at.returns-then-start-eq1-clause-answer g c).After-vacate-at in
    (room g s (left _ c.if-is_empty.ensures), eq-eqb 1 c.args.start.need (sym c.if-start-eq1.true), c.vacate-at.ensures.replaced, c.finish.ensures.finished)

pub returns-clause-after : goal.returns-clause-after
returns-clause-after g c =
    let s = (goal.at.returns-clause-after g c).After-vacate-at in
    c.open.ensures.after ∙ (ap (λ m. added g.K.Ord.cmp m c.args.place.key (entry g s)) c.vacate-at.ensures.after ∙ begun_held g.K.Ord.cmp (seen c.args.self.now) c.args.place.key (entry g s) (room g s (left _ c.if-is_empty.ensures)) (λ e. c.if-start-eq1.false (sym e)))

pub returns-clause-answer : goal.returns-clause-answer
returns-clause-answer g c =
    let s = (goal.at.returns-clause-answer g c).After-vacate-at in
    (room g s (left _ c.if-is_empty.ensures), ne_eqb 1 c.args.start.need (λ e. c.if-start-eq1.false (sym e)), c.vacate-at.ensures.replaced)
