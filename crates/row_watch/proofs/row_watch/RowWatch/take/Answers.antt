use Rattle.std.proofs.Common.{◌+◌, ◌<◌, List, length, sym, ap, subst, ◌∙◌, arith}
use Rattle.gate_events.specs.Emit.{Emit}
use Rattle.row_watch.specs.Alerts.{alerts_output}
use Rattle.row_watch.specs.WatchKept.{Watch, row_taken}
use Rattle.row_watch.proofs.Taking.{IsTakenTo, one_more}
use Rattle.row_watch.proofs.row_watch.RowWatch.take.Goals as goal

pub loop-at-preserved : goal.loop-at-preserved
loop-at-preserved c =
    let start = c.args.start in
    let moment = c.args.moment in
    let new = c.args.new.now in
    let before = c.args.self.now in
    let at = c.loop-at.at in
    let k = c.loop-at.self in
    let out = alerts_output c.loop-at.place in
    let within : at < length before.rows = omega (arith, c.loop-at-test.true, c.loop-at.auto.at-end, c.len-at-end.ensures.value, ap (λ (w : Watch). length w.rows) c.self.view_is) in
    record {
      taken =
          subst (λ (j : Watch). IsTakenTo start moment new before (at + 1) j (alerts_output c.take_at.new.place)) (sym c.take_at.ensures.after)
          (subst (λ (es : List Emit). IsTakenTo start moment new before (at + 1) (row_taken start moment new at k) es) (sym c.take_at.ensures.tells)
          (one_more start moment new before at k out c.loop-at.invariant.taken within));
      plain = c.take_at.ensures.plain ∙ c.loop-at.invariant.plain;
    }
