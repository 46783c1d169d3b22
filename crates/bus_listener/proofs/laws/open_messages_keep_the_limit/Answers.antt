use Rattle.bus_listener.proofs.CommandLemmas.{messages_keep_the_limit}
use Rattle.bus_listener.proofs.laws.open_messages_keep_the_limit.Goals as goal

pub returns : goal.returns
returns c = messages_keep_the_limit
