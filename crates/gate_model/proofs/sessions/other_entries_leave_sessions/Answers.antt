use Rattle.gate_model.proofs.SessionOthers.{others_leave_sessions, datagrams_leave_sessions, ticks_leave_sessions}
use Rattle.gate_model.proofs.sessions.other_entries_leave_sessions.Goals as goal

pub returns-clause-frames : goal.returns-clause-frames
returns-clause-frames c = others_leave_sessions

pub returns-clause-datagrams : goal.returns-clause-datagrams
returns-clause-datagrams c = datagrams_leave_sessions

pub returns-clause-ticks : goal.returns-clause-ticks
returns-clause-ticks c = ticks_leave_sessions
