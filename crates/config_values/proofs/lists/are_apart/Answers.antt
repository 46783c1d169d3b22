use Rattle.config_values.proofs.Pairs.{all_behind, none_behind}
use Rattle.config_values.proofs.Failing.{never}
use Rattle.config_values.proofs.lists.are_apart.Goals as goal

pub returns-then-not-is_apart_from : goal.returns-then-not-is_apart_from
returns-then-not-is_apart_from g c =
    let x = c.index-list-place in
    let tells = c.is_apart_from.ensures in
    never (none_behind g.T.Apart.are_apart c.args.list.now c.loop-place.place x.result c.is_apart_from.result x.is c.loop-place-test.true tells
    c.if-not-is_apart_from.true)

pub loop-place-preserved : goal.loop-place-preserved
loop-place-preserved g c =
    let x = c.index-list-place in
    let tells = c.is_apart_from.ensures in
    all_behind g.T.Apart.are_apart c.args.list.now c.loop-place.place x.result c.is_apart_from.result x.is c.loop-place-test.true tells
    c.if-not-is_apart_from.false c.loop-place.invariant
