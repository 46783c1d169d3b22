use Rattle.row_watch.proofs.Steps.{watches}
use Rattle.row_watch.proofs.row_watch.RowWatchPartAlerts.after.Goals as goal

pub returns-clause-takes : goal.returns-clause-takes
returns-clause-takes c =
    watches c.args.step.now c.moment.result c.of-new.result c.args.self.now c.take.new.self c.take.new.place c.moment.ensures.moment c.of-new.ensures.selected
    c.take.ensures.after c.take.ensures.tells
