-- All fit where all that are left do.
use Rattle.std.proofs.Common.{◌↔◌, drop}
use Rattle.std.specs.Int.{IsInRange}
use Rattle.std.specs.List.{AllByRecursion}
use Rattle.ais_report.specs.Fields.{Fits}
use Rattle.ais_report.proofs.field.all_fit.Given as goal

abbrev pub invariant-loop-field : goal.invariant-loop-field
invariant-loop-field l = record {
  widths : AllByRecursion (λ f. IsInRange 1 31 f.width) (drop l.field-index l.fields);
  fit : AllByRecursion Fits (drop l.field-index l.fields) ↔ AllByRecursion Fits l.fields;
}
