use Rattle.std.proofs.Common.{◌≡◌, subst, sym}
use Rattle.gate_model.specs.Machine.{Machine}
use Rattle.gate_model.specs.MachineSteps.{commanded}
use Rattle.gate_model.specs.Stands.{IsReached}
use Rattle.gate_outbox.specs.Output.{Output}
use Rattle.gate_core.specs.Promises.{IsCommandStep}
use Rattle.gate_core.specs.Steps.{by_keys, output_of}
use Rattle.gate_core.proofs.Promises.{command_fits, command_left, is_command_step}
use Rattle.gate_core.proofs.gateway.Gateway.order.Goals as goal

pub invariant_of-self : goal.invariant_of-self
invariant_of-self c =
    subst (λ z. IsReached by_keys z) (sym c.obey.ensures.after)
    (command_fits c.self.inside.state c.args.source c.args.address c.self.invariant c.ranges.source.fits).reached

pub returns-clause-output : goal.returns-clause-output
returns-clause-output c =
    subst (λ (z : Machine). c.obey.new.out ≡ output_of z.settings.name (commanded z c.args.source c.args.address)) c.self.view_is
    (command_left c.self.inside.state c.args.source c.args.address c.self.invariant c.ranges.source.fits c.args.out.now c.obey.new.out c.requires.empty
    c.obey.ensures.output)

pub returns-clause-history : goal.returns-clause-history
returns-clause-history c =
    let g = c.self.inside.state in
    let source = c.args.source in
    let address = c.args.address in
    subst (λ (z : Machine). IsCommandStep source address z c.obey.new.self c.obey.new.out) c.self.view_is
    (subst (λ (z : Machine). IsCommandStep source address g z c.obey.new.out) (sym c.obey.ensures.after)
    (subst (λ (z : Output). IsCommandStep source address g (commanded g source address).after z)
    (sym (command_left g source address c.self.invariant c.ranges.source.fits c.args.out.now c.obey.new.out c.requires.empty c.obey.ensures.output))
    (is_command_step g source address c.self.invariant c.ranges.source.fits)))
