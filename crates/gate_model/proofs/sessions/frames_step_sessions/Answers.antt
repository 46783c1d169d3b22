use Rattle.gate_model.proofs.SessionFrames.{session_frames_stand}
use Rattle.gate_model.proofs.SessionAnswers.{answers_are_told}
use Rattle.gate_model.proofs.sessions.frames_step_sessions.Goals as goal

pub returns-clause-frames : goal.returns-clause-frames
returns-clause-frames c = session_frames_stand

pub returns-clause-answers : goal.returns-clause-answers
returns-clause-answers c = answers_are_told
