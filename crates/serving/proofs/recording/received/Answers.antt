use Rattle.serving.proofs.recording.received.Goals as goal

pub returns : goal.returns
returns c = rw c.unwrap.ensures at c.of.ensures.value
