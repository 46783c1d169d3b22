use Rattle.std.proofs.Common.{ℕ, nat_le, ap, ◌∙◌}
use Rattle.bridge.proofs.bridge.accepts.Goals as goal

pub returns : goal.returns
returns c = ap (λ (m : ℕ). nat_le m c.moment_of.result) c.moment.ensures.moment ∙ ap (λ (m : ℕ). nat_le c.args.gateway.now.moment m) c.moment_of.ensures
