use Rattle.history.proofs.TraceMoves.{claims_move_traces, commands_move_traces}
use Rattle.history.proofs.laws.addresses_keep_their_frames.Goals as goal

pub returns-clause-claims : goal.returns-clause-claims
returns-clause-claims c = claims_move_traces

pub returns-clause-commands : goal.returns-clause-commands
returns-clause-commands c = commands_move_traces
