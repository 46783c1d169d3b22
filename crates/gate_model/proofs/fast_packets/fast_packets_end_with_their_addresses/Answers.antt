use Rattle.gate_model.proofs.FastLosses.{claims_give_up_fast, commands_leave_fast}
use Rattle.gate_model.proofs.fast_packets.fast_packets_end_with_their_addresses.Goals as goal

pub returns-clause-claims : goal.returns-clause-claims
returns-clause-claims c = claims_give_up_fast

pub returns-clause-commands : goal.returns-clause-commands
returns-clause-commands c = commands_leave_fast
