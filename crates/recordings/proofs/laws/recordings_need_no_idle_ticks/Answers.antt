use Rattle.recordings.proofs.Busy.{busy_events, busy_gate}
use Rattle.recordings.proofs.laws.recordings_need_no_idle_ticks.Goals as goal

pub returns-clause-events : goal.returns-clause-events
returns-clause-events c = busy_events

pub returns-clause-start : goal.returns-clause-start
returns-clause-start c = busy_gate
