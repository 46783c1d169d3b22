use Rattle.std.proofs.Common.{refl, sym, ap, ◌∙◌, option_map}
use Rattle.slot_views.specs.Answers.{ended_of}
use Rattle.slot_views.specs.Slots.{is_between}
use Rattle.slot_views.specs.Shelf.{entries_of}
use Rattle.slot_views.proofs.Sound.{seen_is, map_seen}
use Rattle.slot_views.proofs.Steps.{without_first_at, without_none, find_none, ended_first}
use Rattle.slot_views.proofs.slots.Slots.drop_between.Goals as goal

pub returns-in-Some-clause-map : goal.returns-in-Some-clause-map
returns-in-Some-clause-map g c = rw (← c.self.view_is) (map_seen c.self.inside.shelf c.self.invariant)

pub returns-in-Some-clause-after : goal.returns-in-Some-clause-after
returns-in-Some-clause-after g c =
    rw (← c.self.view_is) (seen_is c.self.inside.shelf c.end.new.self _ c.end.ensures.limit
    (ap entries_of c.end.ensures.slots ∙ sym (without_first_at (is_between g.K.Ord.cmp c.args.low c.args.high) c.self.inside.shelf.slots.items c.in-Some.at c.in-Some.ensures.found)))

pub returns-in-Some-clause-answer : goal.returns-in-Some-clause-answer
returns-in-Some-clause-answer g c =
    rw (← c.self.view_is) (ended_first (is_between g.K.Ord.cmp c.args.low c.args.high) c.self.inside.shelf.slots.items c.in-Some.at c.end.result c.in-Some.ensures.found c.end.ensures.ended)

pub returns-in-None-clause-map : goal.returns-in-None-clause-map
returns-in-None-clause-map g c = rw (← c.self.view_is) (map_seen c.self.inside.shelf c.self.invariant)

pub returns-in-None-clause-after : goal.returns-in-None-clause-after
returns-in-None-clause-after g c =
    rw (← c.self.view_is) (seen_is c.self.inside.shelf c.self.inside.shelf _ refl (sym (without_none (is_between g.K.Ord.cmp c.args.low c.args.high) c.self.inside.shelf.slots.items c.in-None.ensures.absent)))

pub returns-in-None-clause-answer : goal.returns-in-None-clause-answer
returns-in-None-clause-answer g c = rw (← c.self.view_is) (sym (ap (option_map ended_of) (find_none (is_between g.K.Ord.cmp c.args.low c.args.high) c.self.inside.shelf.slots.items c.in-None.ensures.absent)))
