use Rattle.std.proofs.Common.{ap, ◌∙◌}
use Rattle.gate_model.specs.Addresses.{Changed}
use Rattle.gate_model.specs.Machine.{Machine}
use Rattle.gate_core.proofs.gateway.Gateway.left.Goals as goal

pub returns-clause-left : goal.returns-clause-left
returns-clause-left c = ap (λ (k : Changed). k.left) c.changed.ensures ∙ ap (λ (g : Machine). g.addresses.changed.left) c.self.view_is

pub returns-clause-history : goal.returns-clause-history
returns-clause-history c = λ s h stands. returns-clause-left c ∙ ap (λ (k : Changed). k.left) stands.addresses.changed
