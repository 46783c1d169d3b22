use Rattle.gate_config.specs.Keys.{heartbeat}
use Rattle.gate_config.proofs.heartbeat.heartbeat_keys.Goals as goal

pub returns-clause-said : goal.returns-clause-said
unfolding heartbeat
returns-clause-said c = rw (c.in_ok-table.ensures, ← c.in_ok-net.ensures.said, ← c.in_ok-bus_every_s.ensures.said)
