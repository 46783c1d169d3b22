use Rattle.gate_config.specs.Keys.{net}
use Rattle.gate_config.proofs.links.net_keys.Goals as goal

pub returns-clause-said : goal.returns-clause-said
unfolding net
returns-clause-said c = rw (c.in_ok-table.ensures, ← c.in_ok-net_sources.ensures.said, ← c.in_ok-link.ensures.said, ← c.in_ok-link-2.ensures.said)
