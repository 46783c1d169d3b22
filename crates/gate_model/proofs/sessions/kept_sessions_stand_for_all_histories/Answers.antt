use Rattle.gate_model.proofs.SessionRuns.{all_sessions_stand}
use Rattle.gate_model.proofs.sessions.kept_sessions_stand_for_all_histories.Goals as goal

pub returns : goal.returns
returns c = all_sessions_stand
