use Rattle.gate_model.proofs.SessionTimes.{nothing_stands, standing_holds}
use Rattle.gate_model.proofs.sessions.no_session_stands_for_no_history.Goals as goal

pub returns-clause-start : goal.returns-clause-start
returns-clause-start c = nothing_stands

pub returns-clause-holds : goal.returns-clause-holds
returns-clause-holds c = standing_holds
