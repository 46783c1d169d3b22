use Rattle.std.proofs.Common.{◌≡◌, map, take}
use Rattle.quantities.specs.Layout.{field_by}
use Rattle.quantities.proofs.saying.fields_of.Given as goal

abbrev pub invariant-loop-column : goal.invariant-loop-column
invariant-loop-column l = l.fields.items ≡ map (field_by l.values) (take l.column-index l.columns)
