-- As much of the wait has passed as lies between the moment from which it is counted and this one.
use Rattle.std.specs.Prelude.{nat_le}
use Rattle.claim_table.specs.Claims.{claim_wait}
use Rattle.claim_table.proofs.HandlingLemmas.{ready_tells, waited}
use Rattle.claim_table.proofs.claiming.ClaimTable.ready.Goals as goal

pub returns-then-is_some-clause-ready : goal.returns-then-is_some-clause-ready
returns-then-is_some-clause-ready c =
    rw (← c.self.view_is) (waited c.self.inside.own c.self.inside.counted_from c.args.moment c.in-Some.passed c.if-is_some.ensures c.in-Some.ensures.0 c.in-Some.ensures.1)

pub returns-then-is_some-clause-exactly : goal.returns-then-is_some-clause-exactly
returns-then-is_some-clause-exactly c = ready_tells c.args.self.now c.args.moment (nat_le claim_wait c.in-Some.passed) (returns-then-is_some-clause-ready c)
