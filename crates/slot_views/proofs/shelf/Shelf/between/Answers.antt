use Rattle.std.proofs.Common.{◌≡◌, ◌<◌, false, length, inl, inr, ap, sym, ◌∙◌, subst, arith}
use Rattle.std.specs.Ordering.{is_gt}
use Rattle.slot_views.proofs.Places.{first_between, none_between, none_between_below}
use Rattle.slot_views.proofs.shelf.Shelf.between.Given.{Over}
use Rattle.slot_views.proofs.shelf.Shelf.between.Goals.{After-cmp}
use Rattle.slot_views.proofs.shelf.Shelf.between.Goals as goal

-- the place that was found is one of a slot
inside : (g : Over) (c : After-cmp g) → c.lowest_from-at.result < length c.args.self.now.slots.items
inside g c = omega arith

pub returns-then-at-len-clause-absent : goal.returns-then-at-len-clause-absent
returns-then-at-len-clause-absent g c = grind (arith, none_between_below)

pub returns-in-Greater-clause-absent : goal.returns-in-Greater-clause-absent
returns-in-Greater-clause-absent g c = grind (arith, none_between, inside)

pub returns-in-Less : goal.returns-in-Less
returns-in-Less g c =
    let under : is_gt c.cmp.result ≡ false = elim c.in-Less.is [ inl e ↦ ap is_gt e | inr e ↦ ap is_gt e ] in
    let here : is_gt (g.K.Ord.cmp c.index.result.now.key c.args.high) ≡ false = ap is_gt (sym c.cmp.ensures) ∙ under in
    record {
      found = first_between g.met.K.Ord.total c.args.low c.args.high c.args.self.now.slots.items c.lowest_from-at.result c.index.result.now (inside g ((goal.at.returns-in-Less g c).After-cmp))
          c.lowest_from-at.ensures.below c.lowest_from-at.ensures.not_below (subst (λ s. is_gt (g.K.Ord.cmp s.key c.args.high) ≡ false) c.index.ensures here);
      absent = tt;
    }
