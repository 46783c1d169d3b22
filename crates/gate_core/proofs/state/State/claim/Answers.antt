use Rattle.gate_core.proofs.state.State.claim.Goals as goal

pub forget-requires : goal.forget-requires
forget-requires c = c.note_claim-step.ensures.left

pub forget-requires-2 : goal.forget-requires-2
forget-requires-2 c = rw c.address_won.ensures c.note_claim-step.ensures.won

pub note_claim-step-requires : goal.note_claim-step-requires
note_claim-step-requires c = record { address = c.requires.address; stays = c.requires.stays }

pub returns-clause-changed : goal.returns-clause-changed
returns-clause-changed c = rw (c.address_won.ensures, c.note_claim-step.ensures.step)
