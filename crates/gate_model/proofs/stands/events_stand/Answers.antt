use Rattle.gate_model.proofs.StandsRuns.{events_stand, runs_stand}
use Rattle.gate_model.proofs.stands.events_stand.Goals as goal

pub returns-clause-events : goal.returns-clause-events
returns-clause-events c = events_stand

pub returns-clause-runs : goal.returns-clause-runs
returns-clause-runs c = runs_stand
