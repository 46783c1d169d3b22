use Rattle.gate_config.specs.Keys.{gateway, names, preset, row, slots}
use Rattle.gate_config.specs.Unknown.{gateway_noted}
use Rattle.gate_config.proofs.unknown.in_gateway.Goals as goal

pub returns : goal.returns
unfolding gateway_noted gateway names slots preset row
returns c =
    let presets = rw c.items-presets.ensures at c.in_ok-least-2.ensures in
    let rows = rw c.table_under.ensures at c.in_row_table.ensures in
    rw (presets, c.in_ok-least.ensures) at rows
