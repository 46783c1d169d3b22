use Rattle.std.proofs.Common.{◌≡◌, length, ap, sym, ◌∙◌, arith}
use Rattle.claim_table.specs.Claims.{other_than}
use Rattle.claim_table.proofs.SearchLemmas.{closed_where, held_further, held_here, held_is_position, nearest_further, nearest_here, next_reached, open_where}
use Rattle.claim_table.proofs.claiming.ClaimTable.search.Goals.{then-leaves, else-leaves, then-is_open, else-is_open}
use Rattle.claim_table.proofs.claiming.ClaimTable.search.Goals as goal

pub loop-place-preserved : goal.loop-place-preserved
loop-place-preserved c = grind (arith, then-leaves, held_here, else-leaves, held_further, then-is_open, open_where, nearest_here, else-is_open, nearest_further, closed_where)

pub returns-clause-left : goal.returns-clause-left
returns-clause-left c =
    let at_end : c.loop-place.place ≡ length c.args.self.now.holders = omega (arith, c.requires.room) in
    let found = held_is_position c.args.name.0 c.args.self.now.holders c.loop-place.held (rw at_end at c.loop-place.invariant.held) in
    c.other_than.ensures.other ∙ ap (other_than c.args.lost) found

pub returns-clause-next : goal.returns-clause-next
returns-clause-next c h =
    let n = c.args.name.0 in
    let holders = c.args.self.now.holders in
    let at_end : c.loop-place.place ≡ 254 = omega arith in
    let found = held_is_position n holders c.loop-place.held (rw (at_end ∙ sym c.requires.room) at c.loop-place.invariant.held) in
    let left = c.other_than.ensures.other ∙ ap (other_than c.args.lost) found in
    rw left (next_reached n holders c.args.lost c.loop-place.fewest h c.address_after.result (omega (arith, c.requires.room)) (rw at_end at c.loop-place.invariant.nearest) c.address_after.ensures.none c.address_after.ensures.some)
