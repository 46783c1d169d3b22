use Rattle.gate_model.proofs.StandsRoom.{opening_is_reached, steps_fit, commands_fit}
use Rattle.gate_model.proofs.stands.what_was_reached_is_reached_again.Goals as goal

pub returns-clause-opening : goal.returns-clause-opening
returns-clause-opening c = opening_is_reached

pub returns-clause-steps : goal.returns-clause-steps
returns-clause-steps c = steps_fit

pub returns-clause-commands : goal.returns-clause-commands
returns-clause-commands c = commands_fit
