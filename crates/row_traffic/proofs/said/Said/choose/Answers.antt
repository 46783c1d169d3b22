use Rattle.row_traffic.proofs.said.Said.choose.Goals as goal

pub returns-clause-chosen : goal.returns-clause-chosen
returns-clause-chosen c = rw (← c.self.view_is) (rw c.told_by.ensures.told at c.take.ensures.chosen)

pub returns-clause-after : goal.returns-clause-after
returns-clause-after c = rw (← c.self.view_is, c.take.ensures.after, c.told_by.ensures.told)
