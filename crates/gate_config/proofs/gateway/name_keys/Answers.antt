use Rattle.gate_config.specs.Keys.{names}
use Rattle.gate_config.proofs.gateway.name_keys.Goals as goal

pub returns-clause-said : goal.returns-clause-said
unfolding names
returns-clause-said c = rw (← c.in_ok-name.ensures.said, ← c.in_ok-address.ensures.said, ← c.in_ok-sfi.ensures.said)
