use Rattle.gate_config.proofs.Beside.{ais_beside}
use Rattle.gate_config.proofs.all.part_keys.Goals as goal

pub returns-clause-valid : goal.returns-clause-valid
returns-clause-valid c = record {
  product = c.in_ok-product.ensures.valid;
  rmc = c.in_ok-rmc.ensures.valid;
  ais = λ a is. ais_beside c.args.rows.now c.in_ok-rmc.rmc a (rw c.rmc_group.ensures at (c.in_ok-ais.ensures.valid a is));
}
