use Rattle.std.proofs.Common.{◌≡◌, [], All, length, map, take}
use Rattle.config_values.specs.Rows.{IsRow}
use Rattle.config_values.specs.Settings.{rule_of_row}
use Rattle.demo.specs.Setup.{row_said}
use Rattle.demo.proofs.setup.rows_of.Given as goal

abbrev pub invariant-loop-row : goal.invariant-loop-row
invariant-loop-row l =
    (map (rule_of_row []) l.rows.items ≡ map row_said (take l.row-index l.all)) × (length l.rows.items ≡ l.row-index) × All IsRow l.rows.items
