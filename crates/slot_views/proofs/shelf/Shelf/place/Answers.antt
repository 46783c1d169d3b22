use Rattle.std.proofs.Common.{◌≡◌, sym, ◌∙◌, subst, arith}
use Rattle.std.specs.declared.cmp.Ordering.TheVariants.{Equal}
use Rattle.slot_views.proofs.Places.{equal_at, is_equal}
use Rattle.slot_views.proofs.shelf.Shelf.place.Goals as goal

pub returns-then-is_eq-clause-found : goal.returns-then-is_eq-clause-found
returns-then-is_eq-clause-found g c =
    let equal : c.cmp.result ≡ Equal = is_equal c.cmp.result (sym c.is_eq.ensures ∙ c.if-is_eq.true) in
    equal_at g.met.K.Ord.total c.args.key c.args.self.now.slots.items c.args.self.now.latest c.index.result.now c.requires (omega arith)
    (subst (λ s. g.K.Ord.cmp c.args.key s.key ≡ Equal) c.index.ensures (sym c.cmp.ensures ∙ equal))
