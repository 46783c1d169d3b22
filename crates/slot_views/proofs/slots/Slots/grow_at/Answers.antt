use Rattle.std.proofs.Common.{◌≡◌, ◌<◌, vec_len, refl, true, arith}
use Rattle.slot_views.specs.Slots.{Entry, grown, entry_at, is_complete}
use Rattle.slot_views.specs.Shelf.{seen, HasFinished}
use Rattle.slot_views.specs.Answers.{Shows}
use Rattle.slot_views.proofs.Sound.{map_seen}
use Rattle.slot_views.proofs.Steps.{on_some, from_some}
use Rattle.slot_views.proofs.slots.Slots.grow_at.Goals as goal

pub returns-in-Absent : goal.returns-in-Absent
returns-in-Absent g c =
    ((refl, λ _. tt, rw (← c.self.view_is) c.in-Absent.ensures.after), record { map = rw (← c.self.view_is) (map_seen c.self.inside.shelf c.self.invariant); after = tt; answer = rw (← c.self.view_is) c.in-Absent.ensures.answer })

pub returns-in-NotNext : goal.returns-in-NotNext
returns-in-NotNext g c =
    ((refl, λ _. tt, rw (← c.self.view_is) c.in-NotNext.ensures.after), record { map = rw (← c.self.view_is) (map_seen c.self.inside.shelf c.self.invariant); after = tt; answer = rw (← c.self.view_is) c.in-NotNext.ensures.answer })

pub returns-in-Held : goal.returns-in-Held
returns-in-Held g c =
    ((refl, λ _. tt, rw (← c.self.view_is) c.in-Held.ensures.after), record { map = rw (← c.self.view_is) (map_seen c.self.inside.shelf c.self.invariant); after = tt; answer = rw (← c.self.view_is) c.in-Held.ensures.answer })

pub finished-requires : goal.finished-requires
finished-requires g c = (
  omega arith,
  from_some (entry_at g.K.Ord.cmp (seen c.self.inside.shelf) c.args.place.key)
      (λ e. (e.next ≡ c.args.next) × (is_complete (grown e c.args.piece.now c.args.moment c.args.gap) ≡ true) × HasFinished c.grow.new.self (grown e c.args.piece.now c.args.moment c.args.gap).bytes × (c.in-Complete.mark ≡ e.mark))
      (0 < vec_len c.grow.new.self.spare) (λ e (_, _, finished, _). finished.some) c.in-Complete.ensures.answer,
)

pub returns-in-Complete : goal.returns-in-Complete
returns-in-Complete g c =
    let more = λ (e : Entry). grown e c.args.piece.now c.args.moment c.args.gap in
    let answer = on_some (entry_at g.K.Ord.cmp (seen c.self.inside.shelf) c.args.place.key)
    (λ e. (e.next ≡ c.args.next) × (is_complete (more e) ≡ true) × HasFinished c.grow.new.self (more e).bytes × (c.in-Complete.mark ≡ e.mark))
    (λ e. (e.next ≡ c.args.next) × (is_complete (more e) ≡ true) × Shows record { bytes = c.finished.result; mark = c.in-Complete.mark } (more e))
    (λ e (next, complete, finished, mark). (next, complete, record { bytes = c.finished.ensures (more e).bytes finished; mark = mark }))
    c.in-Complete.ensures.answer in
    ((refl, λ _. tt, rw (← c.self.view_is) c.in-Complete.ensures.after), record { map = rw (← c.self.view_is) (map_seen c.self.inside.shelf c.self.invariant); after = tt; answer = rw (← c.self.view_is) answer })
