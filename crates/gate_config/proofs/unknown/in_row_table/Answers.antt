use Rattle.gate_config.specs.Keys.{quantity, row, watched}
use Rattle.gate_config.specs.Unknown.{rows_noted}
use Rattle.gate_config.proofs.unknown.in_row_table.Goals as goal

pub returns : goal.returns
unfolding rows_noted row quantity watched
returns c =
    rw (c.in_ok-least.ensures, c.as_slice.ensures.value, c.as_slice-2.ensures.value, c.row_names-names.ensures.names, c.all_rows.ensures) at c.under_each.ensures
