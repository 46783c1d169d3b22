use Rattle.gate_core.proofs.state.State.single_frame.Goals as goal

pub take_message-requires : goal.take_message-requires
take_message-requires c = record {
  config = c.self.invariant;
  places = rw c.claims.ensures (rw (← c.self.view_is) at c.requires.stays.holders);
}
