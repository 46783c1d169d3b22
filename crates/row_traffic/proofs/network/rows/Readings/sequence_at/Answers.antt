use Rattle.row_traffic.proofs.network.rows.Readings.sequence_at.Goals as goal

pub returns-clause-sequence : goal.returns-clause-sequence
returns-clause-sequence c = rw (← c.self.view_is, c.number.ensures.number)
