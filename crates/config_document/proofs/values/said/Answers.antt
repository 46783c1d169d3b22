use Rattle.std.proofs.Common.{◌≡◌, Some, arith, length-append}
use Rattle.std.proofs.lemmas.Grind.{common_steps}
use Rattle.std.proofs.lemmas.List.Elements.{All-push}
use Rattle.toml.specs.View.{items_view}
use Rattle.config_document.specs.Kinds.{each_said}
use Rattle.config_document.proofs.Lists.{said_few, said_many, said_none}
use Rattle.config_document.proofs.values.said.Goals as goal

pub returns-then-items-clause-said : goal.returns-then-items-clause-said
returns-then-items-clause-said g c = said_many g.T.Written.said_by g.row.MOST c.args.items.now c.if-items.true

pub returns-clause-said : goal.returns-clause-said
returns-clause-said g c =
    let each : each_said g.T.Written.said_by (items_view c.args.items.now) ≡ Some c.loop-item.list.items = grind (arith, common_steps) in
    said_few g.T.Written.said_by g.row.MOST c.args.items.now c.loop-item.list.items c.loop-item.invariant.2 each

pub returns-in-None-clause-said : goal.returns-in-None-clause-said
returns-in-None-clause-said g c =
    said_none g.T.Written.said_by g.row.MOST c.args.items.now c.loop-item.invariant.2 (grind (arith, common_steps))

pub returns-in-None-of-clause-said : goal.returns-in-None-of-clause-said
returns-in-None-of-clause-said g c =
    said_none g.T.Written.said_by g.row.MOST c.args.items.now c.loop-item.invariant.2 (grind (arith, common_steps))

pub push-requires : goal.push-requires
push-requires g c = omega (arith, c.loop-item.invariant.1, c.loop-item.invariant.2, c.loop-item-test.true)

pub loop-item-preserved : goal.loop-item-preserved
loop-item-preserved g c = (
  grind (arith, common_steps),
  rw (c.push.ensures.items, length-append) (omega (arith, c.loop-item.invariant.1)),
  c.loop-item.invariant.2,
  rw c.push.ensures.items (All-push g.T.Written.is_valid c.loop-item.list.items c.in-Some-of.said c.loop-item.invariant.3 c.in-Some-of.ensures.valid),
)
