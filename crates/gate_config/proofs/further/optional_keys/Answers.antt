use Rattle.gate_config.specs.Keys.{optional}
use Rattle.gate_config.proofs.further.optional_keys.Goals as goal

pub returns : goal.returns
unfolding optional
returns c = rw (c.in_ok-table.ensures, ← c.in_ok-rmc.ensures, ← c.in_ok-dbt.ensures)
