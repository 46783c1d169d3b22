use Rattle.bridge.proofs.Alone.{runs_alone, steps_alone}
use Rattle.bridge.proofs.laws.settings_run_alone.Goals as goal

pub returns-clause-steps : goal.returns-clause-steps
returns-clause-steps c = steps_alone

pub returns-clause-runs : goal.returns-clause-runs
returns-clause-runs c = runs_alone
