-- Which claim each way out has handled.
use Rattle.std.proofs.Common.{◌∙◌, ap, sym, nat_eq, arith}
use Rattle.claim_table.specs.Claims.{Claims, Outcome, claim_of}
use Rattle.claim_table.proofs.HandlingLemmas.{duplicates, greater, not_held, settles, yields}
use Rattle.claim_table.proofs.claiming.ClaimTable.handle.Goals.{else-address-lt-NULL_ADDRESS-via-then-address-lt-NULL_ADDRESS+then-eq-2+else-lt, else-address-lt-NULL_ADDRESS-via-then-address-lt-NULL_ADDRESS+else-eq-2, else-address-lt-NULL_ADDRESS-via-else-address-lt-NULL_ADDRESS}
use Rattle.claim_table.proofs.claiming.ClaimTable.handle.Goals as goal

pub returns-then-eq-clause-after : goal.returns-then-eq-clause-after
returns-then-eq-clause-after c =
    rw (← c.self.view_is) (sym (ap (λ (o : Outcome). o.after) (duplicates _ (claim_of c.args.address c.args.name.0 c.args.index c.args.moment) c.if-eq.ensures)))

pub returns-then-eq-clause-step : goal.returns-then-eq-clause-step
returns-then-eq-clause-step c =
    c.step_of.ensures
    ∙ rw (← c.self.view_is) (sym (ap (λ (o : Outcome). o.step) (duplicates _ (claim_of c.args.address c.args.name.0 c.args.index c.args.moment) c.if-eq.ensures)))

pub give_way-requires : goal.give_way-requires
give_way-requires c = c.if-address-lt-NULL_ADDRESS.true

pub returns-then-lt-clause-after : goal.returns-then-lt-clause-after
returns-then-lt-clause-after c =
    rw (c.give_way.ensures.after, ← c.self.view_is) (sym (ap (λ (o : Outcome). o.after) (yields _ (claim_of c.args.address c.args.name.0 c.args.index c.args.moment) c.if-eq.ensures c.if-address-lt-NULL_ADDRESS.true c.if-eq-2.ensures c.if-lt.ensures)))

pub returns-then-lt-clause-step : goal.returns-then-lt-clause-step
returns-then-lt-clause-step c =
    rw (c.give_way.ensures.step, ← c.self.view_is) (sym (ap (λ (o : Outcome). o.step) (yields _ (claim_of c.args.address c.args.name.0 c.args.index c.args.moment) c.if-eq.ensures c.if-address-lt-NULL_ADDRESS.true c.if-eq-2.ensures c.if-lt.ensures)))

pub vacate-requires : goal.vacate-requires
vacate-requires c = c.left_by-released.ensures.within

pub settle-step-requires-clause-within : goal.settle-step-requires-clause-within
settle-step-requires-clause-within c = c.requires

pub settle-step-requires-clause-stays : goal.settle-step-requires-clause-stays
settle-step-requires-clause-stays c = λ within own. elim c.else-address-lt-NULL_ADDRESS.branch [
  | else-address-lt-NULL_ADDRESS-via-then-address-lt-NULL_ADDRESS+then-eq-2+else-lt w ↦
      rw (c.vacate.ensures, ← c.self.view_is) (greater c.args.name.0 c.self.inside.name.0 c.if-eq.ensures w.if-lt.ensures)
  | else-address-lt-NULL_ADDRESS-via-then-address-lt-NULL_ADDRESS+else-eq-2 w ↦
      absurd (not_held c.self.inside.own c.args.address w.if-eq-2.ensures (rw (c.vacate.ensures, ← c.self.view_is) at own))
  | else-address-lt-NULL_ADDRESS-via-else-address-lt-NULL_ADDRESS w ↦ absurd (omega (arith, w.if-address-lt-NULL_ADDRESS.false, within))
]

pub returns-clause-after : goal.returns-clause-after
returns-clause-after c =
    let k = claim_of c.args.address c.args.name.0 c.args.index c.args.moment in
    let other = c.if-eq.ensures ∙ ap (λ (t : Claims). nat_eq c.args.name.0 t.name) c.self.view_is in
    rw (c.settle-step.ensures.after c.args.moment, c.vacate.ensures) (sym (ap (λ (o : Outcome). o.after) (settles c.args.self.now k c.left_by-released.result other c.left_by-released.ensures.left)))

pub returns-clause-step : goal.returns-clause-step
returns-clause-step c =
    let k = claim_of c.args.address c.args.name.0 c.args.index c.args.moment in
    let other = c.if-eq.ensures ∙ ap (λ (t : Claims). nat_eq c.args.name.0 t.name) c.self.view_is in
    rw (c.settle-step.ensures.step c.args.moment, c.vacate.ensures) (sym (ap (λ (o : Outcome). o.step) (settles c.args.self.now k c.left_by-released.result other c.left_by-released.ensures.left)))
