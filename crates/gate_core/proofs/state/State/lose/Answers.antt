use Rattle.gate_core.proofs.state.State.lose.Goals as goal

pub returns-in-Some : goal.returns-in-Some
returns-in-Some c = record {
  after = rw (c.in-Some.is, ← c.self.view_is, c.drop_source.ensures.fast, c.drop_source.ensures.sessions);
  emits = rw (c.in-Some.is, ← c.self.view_is) c.drop_source.ensures.emits;
}

pub returns-in-None : goal.returns-in-None
returns-in-None c = record { after = rw c.in-None.is; emits = rw c.in-None.is }
