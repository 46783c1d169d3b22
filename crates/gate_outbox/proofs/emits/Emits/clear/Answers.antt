use Rattle.gate_outbox.proofs.emits.Emits.clear.Goals as goal

pub returns : goal.returns
returns g c = rw c.clear.ensures
