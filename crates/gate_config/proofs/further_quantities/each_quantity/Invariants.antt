use Rattle.std.proofs.Common.{◌≡◌, [], All, length, take, drop}
use Rattle.quantities.specs.About.{quantities, quantities_count}
use Rattle.config_document.specs.Places.{place_of}
use Rattle.settings.specs.Setup.{IsQuantity}
use Rattle.gate_config.specs.Keys.{quantity_of}
use Rattle.gate_config.specs.Reading.{each_from}
use Rattle.gate_config.proofs.further_quantities.each_quantity.Given as goal

abbrev pub invariant-loop-each : goal.invariant-loop-each
invariant-loop-each l = record {
  all : l.each-items ≡ quantities;
  count : length l.read ≡ quantities_count;
  said : each_from (quantity_of (place_of l.table)) (take l.each-index l.read) (drop l.each-index quantities) ≡ each_from (quantity_of (place_of l.table)) [] quantities;
  valid : All IsQuantity (take l.each-index l.read);
}
