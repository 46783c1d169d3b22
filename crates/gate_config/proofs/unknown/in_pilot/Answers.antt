use Rattle.gate_config.specs.Keys.{heading, nav, quantity}
use Rattle.gate_config.specs.Unknown.{pilot_noted}
use Rattle.gate_config.proofs.unknown.in_pilot.Goals as goal

pub returns : goal.returns
unfolding pilot_noted heading nav quantity
returns c = rw c.in_ok-least.ensures at c.under-2.ensures
