use Rattle.std.proofs.Common.{refl}
use Rattle.claim_table.proofs.claiming.ClaimTable.settle.Goals as goal

pub returns-then-address-eq-NULL_ADDRESS-clause-after : goal.returns-then-address-eq-NULL_ADDRESS-clause-after
returns-then-address-eq-NULL_ADDRESS-clause-after c = λ moment. rw c.if-address-eq-NULL_ADDRESS.true refl

pub returns-then-address-eq-NULL_ADDRESS-clause-step : goal.returns-then-address-eq-NULL_ADDRESS-clause-step
returns-then-address-eq-NULL_ADDRESS-clause-step c = λ moment. rw c.if-address-eq-NULL_ADDRESS.true c.step_of.ensures
