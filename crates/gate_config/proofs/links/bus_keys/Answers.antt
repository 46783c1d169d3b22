use Rattle.gate_config.specs.Keys.{bus}
use Rattle.gate_config.proofs.links.bus_keys.Goals as goal

pub returns-clause-said : goal.returns-clause-said
unfolding bus
returns-clause-said c = rw (c.in_ok-table.ensures, ← c.in_ok-link.ensures.said, ← c.in_ok-link-2.ensures.said)
