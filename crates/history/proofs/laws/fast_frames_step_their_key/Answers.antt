use Rattle.history.proofs.KeySteps.{fast_steps, fast_keeps, fast_ends}
use Rattle.history.proofs.laws.fast_frames_step_their_key.Goals as goal

pub returns-clause-step : goal.returns-clause-step
returns-clause-step c = fast_steps

pub returns-clause-others : goal.returns-clause-others
returns-clause-others c = fast_keeps

pub returns-clause-later : goal.returns-clause-later
returns-clause-later c = fast_ends
