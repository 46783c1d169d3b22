-- What is written and what is left make up the whole.
use Rattle.std.proofs.Common.{◌≡◌, ◌+◌, ◌≤◌, ◌++◌, length, drop}
use Rattle.std.specs.Int.{IsInRange}
use Rattle.std.specs.List.{AllByRecursion, flat_map}
use Rattle.ais_report.specs.Fields.{Fits, field_bits}
use Rattle.ais_report.proofs.field.append_fields.Given as goal

abbrev pub invariant-loop-field : goal.invariant-loop-field
invariant-loop-field l = record {
  whole : l.out.items ++ flat_map field_bits (drop l.field-index l.fields) ≡ l.initial.out.items ++ flat_map field_bits l.fields;
  widths : AllByRecursion (λ f. IsInRange 1 31 f.width) (drop l.field-index l.fields);
  fit : AllByRecursion Fits (drop l.field-index l.fields);
}
