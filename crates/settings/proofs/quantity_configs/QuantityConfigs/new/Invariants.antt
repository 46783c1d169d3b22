-- So many are there as were made.
use Rattle.std.proofs.Common.{◌≡◌, replicate}
use Rattle.settings.specs.Setup.{usual_quantity}
use Rattle.settings.proofs.quantity_configs.QuantityConfigs.new.Given as goal

abbrev pub invariant-loop : goal.invariant-loop
invariant-loop l = l.each.items ≡ replicate l.counter usual_quantity
