use Rattle.gate_model.proofs.SessionMoves.{claims_tell_moves, commands_tell_moves}
use Rattle.gate_model.proofs.sessions.answers_tell_moves.Goals as goal

pub returns-clause-claims : goal.returns-clause-claims
returns-clause-claims c = claims_tell_moves

pub returns-clause-commands : goal.returns-clause-commands
returns-clause-commands c = commands_tell_moves
