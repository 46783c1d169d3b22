use Rattle.gate_core.proofs.state.State.step.Goals as goal

pub enter-requires : goal.enter-requires
enter-requires c = record { valid = c.requires.valid; stays = c.requires.stays; moment = c.moment_of-moment.ensures }

pub invariant_of-out : goal.invariant_of-out
invariant_of-out c = c.out.invariant
