use Rattle.gate_core.proofs.state.State.claim_frame.Goals as goal

pub claim-requires : goal.claim-requires
claim-requires c = record { address = c.requires.address; stays = c.requires.stays }

pub returns-clause-changed : goal.returns-clause-changed
returns-clause-changed c = rw (c.claim.ensures.changed, c.requires.parts, c.requires.name)

pub returns-clause-after : goal.returns-clause-after
returns-clause-after c = rw (c.requires.claims, c.claim.ensures.after, c.requires.parts, c.requires.name)
