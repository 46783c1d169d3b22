use Rattle.std.proofs.Common.{ap}
use Rattle.claim_table.specs.Claims.{Outcome, claim_of}
use Rattle.claim_table.proofs.SearchLemmas.{gives_way, gives_way_tells}
use Rattle.claim_table.proofs.claiming.ClaimTable.give_way.Goals as goal

pub returns-clause-after : goal.returns-clause-after
returns-clause-after c =
    let ways = c.ways-ways.ensures in
    let k = claim_of c.args.address c.args.name.0 c.args.index c.args.moment in
    rw (c.go-own.ensures.after, c.take.ensures, c.vacate.ensures) (ap (λ (o : Outcome). o.after) (gives_way c.args.self.now k c.ways-ways.result.left c.ways-ways.result.next ways.left (ways.next c.args.index c.args.moment)))

pub returns-clause-step : goal.returns-clause-step
returns-clause-step c =
    let ways = c.ways-ways.ensures in
    let k = claim_of c.args.address c.args.name.0 c.args.index c.args.moment in
    let own = rw (c.take.ensures, c.vacate.ensures) at c.go-own.ensures.own in
    gives_way_tells c.args.self.now k c.ways-ways.result.left c.ways-ways.result.next c.go-own.result ways.left (ways.next c.args.index c.args.moment) own
