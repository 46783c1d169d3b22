use Rattle.gate_model.proofs.SessionLosses.{claims_give_up, commands_give_up}
use Rattle.gate_model.proofs.sessions.sessions_end_with_their_addresses.Goals as goal

pub returns-clause-claims : goal.returns-clause-claims
returns-clause-claims c = claims_give_up

pub returns-clause-commands : goal.returns-clause-commands
returns-clause-commands c = commands_give_up
