use Rattle.std.proofs.Common.{◌≡◌, subst, sym}
use Rattle.gate_model.specs.Machine.{Machine}
use Rattle.gate_model.specs.MachineSteps.{stepped}
use Rattle.gate_model.specs.Stands.{IsReached}
use Rattle.gate_outbox.specs.Output.{Output}
use Rattle.gate_core.specs.Promises.{IsStep}
use Rattle.gate_core.specs.Steps.{by_keys, entry_of, output_of}
use Rattle.gate_core.proofs.Promises.{stays_of, step_fits, step_left, is_step}
use Rattle.gate_core.proofs.gateway.Gateway.step.Goals as goal

pub step-requires-clause-stays : goal.step-requires-clause-stays
step-requires-clause-stays c = stays_of c.self.inside.state c.self.invariant

pub invariant_of-self : goal.invariant_of-self
invariant_of-self c =
    subst (λ z. IsReached by_keys z) (sym c.step.ensures.after) (step_fits c.self.inside.state c.args.event.now c.self.invariant c.requires.valid).reached

pub returns-clause-output : goal.returns-clause-output
returns-clause-output c =
    let e = entry_of c.args.event.now in
    subst (λ (z : Machine). c.step.new.out ≡ output_of z.settings.name (stepped by_keys z e)) c.self.view_is
    (step_left c.self.inside.state c.args.event.now c.self.invariant c.requires.valid c.args.out.now c.step.new.out c.requires.empty c.step.ensures.output)

pub returns-clause-history : goal.returns-clause-history
returns-clause-history c =
    let g = c.self.inside.state in
    let e = entry_of c.args.event.now in
    subst (λ (z : Machine). IsStep e z c.step.new.self c.step.new.out) c.self.view_is
    (subst (λ (z : Machine). IsStep e g z c.step.new.out) (sym c.step.ensures.after)
    (subst (λ (z : Output). IsStep e g (stepped by_keys g e).after z)
    (sym (step_left g c.args.event.now c.self.invariant c.requires.valid c.args.out.now c.step.new.out c.requires.empty c.step.ensures.output))
    (is_step g c.args.event.now c.self.invariant c.requires.valid)))
