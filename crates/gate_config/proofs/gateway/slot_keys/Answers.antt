use Rattle.gate_config.specs.Keys.{slots}
use Rattle.gate_config.proofs.gateway.slot_keys.Goals as goal

pub returns-clause-said : goal.returns-clause-said
unfolding slots
returns-clause-said c = rw (← c.in_ok-fast.ensures.said, ← c.in_ok-iso.ensures.said, ← c.in_ok-group.ensures.said)
