use Rattle.ais_bridge.proofs.CommandLemmas.{commands_leave_ais}
use Rattle.ais_bridge.proofs.laws.commands_leave_the_bridge.Goals as goal

pub returns : goal.returns
returns c = commands_leave_ais
