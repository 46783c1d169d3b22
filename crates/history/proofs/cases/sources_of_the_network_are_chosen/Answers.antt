use Rattle.history.proofs.NetChoiceCases.{first_listed, heard_while_silent, heard_before_ready, nothing_to_say, same_datagram}
use Rattle.history.proofs.cases.sources_of_the_network_are_chosen.Goals as goal

pub returns-clause-first_listed : goal.returns-clause-first_listed
returns-clause-first_listed c = first_listed

pub returns-clause-heard_while_silent : goal.returns-clause-heard_while_silent
returns-clause-heard_while_silent c = heard_while_silent

pub returns-clause-heard_before_ready : goal.returns-clause-heard_before_ready
returns-clause-heard_before_ready c = heard_before_ready

pub returns-clause-nothing_to_say : goal.returns-clause-nothing_to_say
returns-clause-nothing_to_say c = nothing_to_say

pub returns-clause-same_datagram : goal.returns-clause-same_datagram
returns-clause-same_datagram c = same_datagram
