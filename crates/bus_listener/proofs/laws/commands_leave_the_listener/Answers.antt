use Rattle.bus_listener.proofs.CommandLemmas.{commands_leave_listening}
use Rattle.bus_listener.proofs.laws.commands_leave_the_listener.Goals as goal

pub returns : goal.returns
returns c = commands_leave_listening
