use Rattle.std.proofs.Common.{◌≡◌, ◌+◌, ◌-◌, ◌/◌, subst, sym, arith, add-one}
use Rattle.std.specs.declared.cmp.Ordering.TheVariants.{Less, Equal, Greater}
use Rattle.slot_views.specs.Places.{Below}
use Rattle.slot_views.specs.Shelf.{entries_of}
use Rattle.slot_views.proofs.Places.{above_from, below_from, equal_at}
use Rattle.slot_views.proofs.shelf.Shelf.search.Goals as goal

pub loop-low-preserved-in-Less : goal.loop-low-preserved-in-Less
loop-low-preserved-in-Less g c = record {
  ordered = omega arith;
  in_range = omega arith;
  below = c.loop-low.invariant.below;
  above = above_from g.met.K.Ord.total c.args.key c.args.self.now.slots.items (c.loop-low.low + (c.loop-low.high - c.loop-low.low) / 2) c.index.result.now c.requires (omega arith)
      (subst (λ s. g.K.Ord.cmp c.args.key s.key ≡ Less) c.index.ensures (sym c.in-Less.ensures));
}

pub returns-in-Equal-clause-found : goal.returns-in-Equal-clause-found
returns-in-Equal-clause-found g c =
    equal_at g.met.K.Ord.total c.args.key c.args.self.now.slots.items (c.loop-low.low + (c.loop-low.high - c.loop-low.low) / 2) c.index.result.now c.requires (omega arith)
    (subst (λ s. g.K.Ord.cmp c.args.key s.key ≡ Equal) c.index.ensures (sym c.in-Equal.ensures))

pub loop-low-preserved : goal.loop-low-preserved
loop-low-preserved g c = record {
  ordered = omega arith;
  in_range = c.loop-low.invariant.in_range;
  below = subst (λ j. Below g.K.Ord.cmp c.args.key (entries_of c.args.self.now.slots.items) j) (sym (add-one (c.loop-low.low + (c.loop-low.high - c.loop-low.low) / 2)))
      (below_from g.met.K.Ord.total c.args.key c.args.self.now.slots.items (c.loop-low.low + (c.loop-low.high - c.loop-low.low) / 2) c.index.result.now c.requires (omega arith)
      (subst (λ s. g.K.Ord.cmp c.args.key s.key ≡ Greater) c.index.ensures (sym c.in-Greater.ensures)));
  above = c.loop-low.invariant.above;
}
