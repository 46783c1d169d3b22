use Rattle.std.proofs.Common.{arith}
use Rattle.std.proofs.lemmas.Grind.{common_steps}
use Rattle.live_outside.proofs.Ways.{goes_here, goes_past}
use Rattle.live_outside.proofs.destinations.Destinations.address.Goals as goal

pub returns-then-eq : goal.returns-then-eq
returns-then-eq c = rw (← c.loop-to.invariant.items) (c.loop-to.invariant.behind c.to-item.result.address
    (goes_here c.args.group c.as_slice-to-items.result.now c.loop-to.to-index c.to-item.result c.args.self.now.other c.eq.result c.to-item.is (omega arith) c.eq.ensures c.if-eq.true))

pub loop-to-preserved : goal.loop-to-preserved
loop-to-preserved c = record {
  items = c.loop-to.invariant.items;
  behind = λ a goes. c.loop-to.invariant.behind a
      (goes_past c.args.group c.as_slice-to-items.result.now c.loop-to.to-index c.to-item.result c.args.self.now.other a c.eq.result c.to-item.is (omega arith) c.eq.ensures c.if-eq.false goes);
}

pub returns : goal.returns
returns c = grind (arith, common_steps)
