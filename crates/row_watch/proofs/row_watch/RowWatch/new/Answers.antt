use Rattle.std.proofs.Common.{List, sym, ap, subst, ◌∙◌}
use Rattle.row_watch.specs.WatchKept.{opened_rows}
use Rattle.row_watch.specs.WatchRule.{watch_rule, watched_of}
use Rattle.row_watch.specs.WatchStands.{IsOpenedWatch}
use Rattle.row_watch.specs.declared.watched_row.WatchedRow.{WatchedRow}
use Rattle.row_watch.proofs.Steps.{watch_opened}
use Rattle.row_watch.proofs.row_watch.RowWatch.new.Goals as goal

pub returns-clause-stands : goal.returns-clause-stands
returns-clause-stands c =
    let config = c.args.config.now in
    let is = c.rows_of.ensures.rows ∙ ap (λ all. opened_rows (watched_of config.limits all)) c.all_rows.ensures in
    subst
    (λ (rows : List WatchedRow). IsOpenedWatch (watch_rule config c.args.sfi) (record { rows = rows; alerts = config.alerts; sfi = c.args.sfi; count = 0 }))
    (sym is) (watch_opened config c.args.sfi)
