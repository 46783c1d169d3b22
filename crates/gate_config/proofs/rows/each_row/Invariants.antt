use Rattle.std.proofs.Common.{◌≡◌, [], All, length, drop}
use Rattle.config_document.specs.Places.{place_of}
use Rattle.config_values.specs.Rows.{IsRow}
use Rattle.gate_config.specs.Keys.{row_of}
use Rattle.gate_config.specs.Reading.{each_from}
use Rattle.gate_config.proofs.rows.each_row.Given as goal

abbrev pub invariant-loop-each : goal.invariant-loop-each
invariant-loop-each l =
    (each_from (row_of l.group (place_of l.rows)) l.read.items (drop l.each-index l.all) ≡ each_from (row_of l.group (place_of l.rows)) [] l.all) × (length l.read.items ≡ l.each-index)
    × All IsRow l.read.items
