use Rattle.gate_config.specs.Keys.{further}
use Rattle.gate_config.proofs.further_quantities.further_keys.Goals as goal

pub returns-clause-said : goal.returns-clause-said
unfolding further
returns-clause-said c = rw (← (rw c.is_asked.ensures at c.in_ok-group.ensures.said), ← c.in_ok-slots.ensures.said, ← c.in_ok-twin_engines.ensures)
