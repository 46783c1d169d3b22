use Rattle.std.proofs.Common.{subst, sym}
use Rattle.gate_model.specs.Stands.{IsReached}
use Rattle.gate_core.specs.Steps.{by_keys}
use Rattle.gate_core.proofs.Promises.{opened_reached}
use Rattle.gate_core.proofs.gateway.Gateway.with.Goals as goal

pub invariant_of-result : goal.invariant_of-result
invariant_of-result c = subst (λ z. IsReached by_keys z) (sym c.in_ok-state.ensures) (opened_reached c.args.ignored.now.items c.args.optional c.args.config.now c.requires)
