use Rattle.gate_model.proofs.FastTimes.{nothing_stands_fast, standing_holds_fast}
use Rattle.gate_model.proofs.fast_packets.no_fast_packet_stands_for_no_history.Goals as goal

pub returns-clause-start : goal.returns-clause-start
returns-clause-start c = nothing_stands_fast

pub returns-clause-holds : goal.returns-clause-holds
returns-clause-holds c = standing_holds_fast
