use Rattle.gate_core.proofs.state.State.frame.Goals as goal

pub claim_frame-requires-clause-valid : goal.claim_frame-requires-clause-valid
claim_frame-requires-clause-valid c = c.requires.valid

pub claim_frame-requires-clause-stays : goal.claim_frame-requires-clause-stays
claim_frame-requires-clause-stays c = c.requires.stays

pub meant_frame-requires-clause-valid : goal.meant_frame-requires-clause-valid
meant_frame-requires-clause-valid c = c.requires.valid

pub meant_frame-requires-clause-stays : goal.meant_frame-requires-clause-stays
meant_frame-requires-clause-stays c = c.requires.stays
