use Rattle.std.proofs.Common.{◌≡◌}
use Rattle.row_watch.specs.Alerts.{alerts_output, alerts_plain}
use Rattle.row_watch.proofs.Taking.{IsTakenTo}
use Rattle.row_watch.proofs.row_watch.RowWatch.take.Given as goal

abbrev pub invariant-loop-at : goal.invariant-loop-at
invariant-loop-at l = record {
  taken : IsTakenTo l.start l.moment l.new l.fn.self l.at l.self (alerts_output l.place);
  plain : alerts_plain l.place ≡ alerts_plain l.fn.place;
}
