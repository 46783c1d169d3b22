use Rattle.gate_model.proofs.SessionTimes.{time_ends_sessions}
use Rattle.gate_model.proofs.sessions.time_ends_sessions.Goals as goal

pub returns : goal.returns
returns c = time_ends_sessions
