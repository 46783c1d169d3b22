use Rattle.std.proofs.Common.{◌≡◌, ◌≤◌, ◌++◌, drop, length, map}
use Rattle.plain_out.specs.Plain.{plain_out}
use Rattle.row_watch.specs.Alerts.{short_emit, told_emit}
use Rattle.row_watch.proofs.alerts.say_all.Given as goal

abbrev pub invariant-loop-told : goal.invariant-loop-told
invariant-loop-told l = record {
  said : map short_emit l.plain.items ++ plain_out l.group (map told_emit (drop l.told-index l.told)) ≡ plain_out l.group (map told_emit l.told);
  few : length l.plain.items ≤ l.told-index;
}
