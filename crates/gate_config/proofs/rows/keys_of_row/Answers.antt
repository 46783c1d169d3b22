use Rattle.gate_config.specs.Keys.{row}
use Rattle.gate_config.proofs.rows.keys_of_row.Goals as goal

pub returns-clause-said : goal.returns-clause-said
unfolding row
returns-clause-said c = rw (← c.in_ok-taken.ensures.said, ← c.in_ok-group.ensures.said)
