use Rattle.gate_model.proofs.FastTimes.{time_ends_fast_packets}
use Rattle.gate_model.proofs.fast_packets.time_ends_fast_packets.Goals as goal

pub returns : goal.returns
returns c = time_ends_fast_packets
