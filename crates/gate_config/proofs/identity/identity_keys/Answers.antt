use Rattle.gate_config.specs.Keys.{identity}
use Rattle.gate_config.proofs.Values.{product_text}
use Rattle.gate_config.proofs.identity.identity_keys.Goals as goal

pub returns-clause-said : goal.returns-clause-said
unfolding identity
returns-clause-said c = rw (c.in_ok-table.ensures, ← c.in_ok-code.ensures.said, ← c.in_ok-model.ensures.said, ← c.in_ok-load.ensures.said)

pub returns-clause-valid : goal.returns-clause-valid
returns-clause-valid c = record {
  model = product_text _ c.in_ok-model.ensures.valid.0;
  software = product_text _ c.in_ok-model.ensures.valid.1;
  version = product_text _ c.in_ok-model.ensures.valid.2;
  serial = product_text _ c.in_ok-model.ensures.valid.3;
  load = c.in_ok-load.ensures.valid.1;
}
