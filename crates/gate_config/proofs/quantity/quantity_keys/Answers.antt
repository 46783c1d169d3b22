use Rattle.gate_config.specs.Keys.{quantity}
use Rattle.gate_config.proofs.Values.{talker}
use Rattle.gate_config.proofs.quantity.quantity_keys.Goals as goal

pub returns-clause-said : goal.returns-clause-said
unfolding quantity
returns-clause-said c = rw (← c.in_ok-sources.ensures.said, ← c.in_ok-others.ensures, ← c.in_ok-timeout_ms.ensures.said, ← c.in_ok-talker.ensures.said)

pub returns-clause-valid : goal.returns-clause-valid
returns-clause-valid c = record {
  sources = c.in_ok-sources.ensures.valid;
  timeout = c.in_ok-timeout_ms.ensures.valid;
  talker = talker _ c.in_ok-talker.ensures.valid;
}
