use Rattle.std.proofs.Common.{subst, sym}
use Rattle.gate_model.specs.Machine.{Machine}
use Rattle.gate_model.specs.Stands.{IsReached}
use Rattle.gate_outbox.specs.declared.done.Command.{Command}
use Rattle.gate_core.specs.Promises.{IsOrderStep}
use Rattle.gate_core.specs.Steps.{by_keys}
use Rattle.gate_core.proofs.Ordering.{is_order_step}
use Rattle.gate_core.proofs.Promises.{command_fits}
use Rattle.gate_core.proofs.gateway.Gateway.order_behind.Goals as goal

pub invariant_of-self : goal.invariant_of-self
invariant_of-self c =
    subst (λ z. IsReached by_keys z) (sym c.obey.ensures.after)
    (command_fits c.self.inside.state c.args.source c.args.address c.self.invariant c.ranges.source.fits).reached

pub returns-clause-history : goal.returns-clause-history
returns-clause-history c =
    let g = c.self.inside.state in
    let o : Command = record { source = c.args.source; address = c.args.address } in
    subst (λ (z : Machine). IsOrderStep o z c.obey.new.self c.args.out.now c.obey.new.out) c.self.view_is
    (subst (λ (z : Machine). IsOrderStep o g z c.args.out.now c.obey.new.out) (sym c.obey.ensures.after)
    (is_order_step g c.args.source c.args.address c.self.invariant c.ranges.source.fits c.args.out.now c.obey.new.out c.obey.ensures.output))
