use Rattle.gate_config.specs.Keys.{rows_in}
use Rattle.gate_config.proofs.Tables.{row_name}
use Rattle.gate_config.proofs.rows.row_keys.Goals as goal

pub returns-clause-said : goal.returns-clause-said
unfolding rows_in
returns-clause-said c = rw row_name (rw c.in_ok-section.ensures (rw c.all_rows.ensures at c.each_row.ensures.said))
