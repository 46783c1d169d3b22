use Rattle.recordings.proofs.Busy.{start_is_idle}
use Rattle.recordings.proofs.Events.{idle_ticks}
use Rattle.recordings.proofs.laws.idle_ticks_change_nothing.Goals as goal

pub returns-clause-start : goal.returns-clause-start
returns-clause-start c = start_is_idle

pub returns-clause-one : goal.returns-clause-one
returns-clause-one c = idle_ticks
