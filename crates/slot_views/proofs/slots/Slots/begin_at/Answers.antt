use Rattle.std.proofs.Common.{refl}
use Rattle.slot_views.proofs.Sound.{map_seen}
use Rattle.slot_views.proofs.slots.Slots.begin_at.Goals as goal

pub returns-in-Full : goal.returns-in-Full
returns-in-Full g c =
    ((refl, λ _. tt, rw (← c.self.view_is) c.in-Full.ensures.after), record { map = rw (← c.self.view_is) (map_seen c.self.inside.shelf c.self.invariant); after = tt; answer = rw (← c.self.view_is) c.in-Full.ensures.answer })

pub returns-in-Held : goal.returns-in-Held
returns-in-Held g c =
    ((refl, λ _. tt, rw (← c.self.view_is) c.in-Held.ensures.after), record { map = rw (← c.self.view_is) (map_seen c.self.inside.shelf c.self.invariant); after = tt; answer = rw (← c.self.view_is) c.in-Held.ensures.answer })

pub returns-in-Complete : goal.returns-in-Complete
returns-in-Complete g c =
    let (room, complete, replaced, finished) = c.in-Complete.ensures.answer in
    ((refl, λ _. tt, rw (← c.self.view_is) c.in-Complete.ensures.after), record { map = rw (← c.self.view_is) (map_seen c.self.inside.shelf c.self.invariant); after = tt; answer = rw (← c.self.view_is) (room, complete, replaced, record { bytes = c.finished.ensures c.args.piece.now finished; mark = refl }) })
