use Rattle.gate_model.proofs.FastOthers.{others_leave_fast, datagrams_leave_fast, ticks_leave_fast}
use Rattle.gate_model.proofs.fast_packets.other_entries_leave_fast_packets.Goals as goal

pub returns-clause-frames : goal.returns-clause-frames
returns-clause-frames c = others_leave_fast

pub returns-clause-datagrams : goal.returns-clause-datagrams
returns-clause-datagrams c = datagrams_leave_fast

pub returns-clause-ticks : goal.returns-clause-ticks
returns-clause-ticks c = ticks_leave_fast
