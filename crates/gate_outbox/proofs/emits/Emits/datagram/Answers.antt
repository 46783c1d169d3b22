use Rattle.gate_outbox.proofs.emits.Emits.datagram.Goals as goal

pub returns-then-self-clause-posted : goal.returns-then-self-clause-posted
returns-then-self-clause-posted g c = rw (← c.self.view_is, c.if-self.true)
