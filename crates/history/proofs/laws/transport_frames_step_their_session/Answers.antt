use Rattle.history.proofs.SessionSteps.{iso_steps, iso_completes, iso_ends}
use Rattle.history.proofs.laws.transport_frames_step_their_session.Goals as goal

pub returns-clause-step : goal.returns-clause-step
returns-clause-step c = iso_steps

pub returns-clause-complete : goal.returns-clause-complete
returns-clause-complete c = iso_completes

pub returns-clause-later : goal.returns-clause-later
returns-clause-later c = iso_ends
