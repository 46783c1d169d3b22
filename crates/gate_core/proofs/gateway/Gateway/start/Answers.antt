use Rattle.std.proofs.Common.{◌≡◌, [], subst, sym}
use Rattle.gate_model.specs.Machine.{Machine, opened_machine}
use Rattle.gate_model.specs.Stands.{Stands, IsReached}
use Rattle.gate_core.specs.Steps.{by_keys}
use Rattle.gate_core.proofs.Promises.{started_reached, start_stands}
use Rattle.gate_core.proofs.gateway.Gateway.start.Goals as goal

pub invariant_of-self : goal.invariant_of-self
invariant_of-self c =
    let first = subst (λ (z : Machine). z ≡ opened_machine z.settings) (sym c.self.view_is) c.requires.first in
    subst (λ z. IsReached by_keys z) (sym c.start.ensures.after) (started_reached c.self.inside.state c.args.moment c.self.invariant first)

pub returns-clause-stands : goal.returns-clause-stands
returns-clause-stands c =
    let first = subst (λ (z : Machine). z ≡ opened_machine z.settings) (sym c.self.view_is) c.requires.first in
    subst (λ (z : Machine). Stands by_keys z.settings c.args.moment [] z) (sym c.start.ensures.after)
    (start_stands c.self.inside.state c.args.moment c.self.invariant first)
