use Rattle.std.proofs.Common.{ℕ, Option, Some, None, inl, inr, refl}
use Rattle.std.specs.Prelude.{Result, Ok, Err}
use Rattle.config_values.specs.declared.config.Ends.{Ends}
use Rattle.gate_outside.specs.declared.Failed.{Failed}
use Rattle.gate_outside.specs.Faults.{HasCause}
use Rattle.gate_outside.specs.Link.{GoesOn, Attaches, Traffic}
use Rattle.gateway_commands.specs.ServeCommand.{AttachesBoth, IsAttached, bus_attachment}
use Rattle.gateway_commands.proofs.serve_command.attach_both.Goals as goal

as_before : (told : Option Traffic) → GoesOn (λ t. t) told told
as_before None = tt
as_before (Some t) = refl

-- the bus was attached, and the network then was or failed
behind_bus : (ends : Ends) (bus bus' net net' : Option Traffic) (b b' n n' : ℕ) (result : Result (Unit {0}) Failed) → IsAttached (bus_attachment ends) bus bus'
    → Attaches ends.net_listen.items ends.net net net' result → HasCause n n' result → AttachesBoth ends bus bus' b b' net net' n n' result
behind_bus ends bus bus' net net' b b' n n' (Ok done) attached told cause = (attached, told)
behind_bus ends bus bus' net net' b b' n n' (Err e) attached told cause = inr (attached, told, cause.rose)

pub returns-in-Ok : goal.returns-in-Ok
returns-in-Ok g c =
    behind_bus c.args.ends.now _ _ _ _ _ _ _ _ c.attach-in-Ok.result (rw (c.as_slice.ensures.value, c.all_to.ensures.list, c.all_to.ensures.other) at c.in-Ok.ensures.told)
    (rw c.as_slice-in-Ok.ensures.value at c.attach-in-Ok.ensures.told) c.attach-in-Ok.ensures.cause

pub returns-in-Err : goal.returns-in-Err
returns-in-Err g c = inl (c.in-Err.ensures.told, as_before (g.E.Link.traffic c.args.net.now), c.in-Err.ensures.cause.rose)
