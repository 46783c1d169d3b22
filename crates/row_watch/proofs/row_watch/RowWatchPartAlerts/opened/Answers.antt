use Rattle.std.proofs.Common.{◌==◌, length, sym, ap, ◌∙◌}
use Rattle.settings.specs.Setup.{gateway_of}
use Rattle.row_watch.specs.WatchKept.{Watch}
use Rattle.row_watch.proofs.Opened.{none_opened, some_opened}
use Rattle.row_watch.proofs.row_watch.RowWatchPartAlerts.opened.Goals as goal

pub returns-then-is_empty : goal.returns-then-is_empty
returns-then-is_empty c =
    let x = c.args.setup.now in
    none_opened x.watch x.settings.config.sfi c.new-watch.result c.new-watch.ensures.stands
    (ap (λ (w : Watch). length w.rows == 0) (sym c.watch.view_is) ∙ sym c.is_empty.ensures ∙ c.if-is_empty.true) (gateway_of x)

pub returns-else-is_empty : goal.returns-else-is_empty
returns-else-is_empty c =
    let x = c.args.setup.now in
    some_opened x.watch x.settings.config.sfi c.new-watch.result c.new-watch.ensures.stands
    (ap (λ (w : Watch). length w.rows == 0) (sym c.watch.view_is) ∙ sym c.is_empty.ensures ∙ c.if-is_empty.false) (gateway_of x)
