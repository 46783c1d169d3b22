use Rattle.gate_model.proofs.SaidCounts.{datagrams_are_of_all}
use Rattle.gate_model.proofs.said.datagrams_are_of_all_that_was_said.Goals as goal

pub returns : goal.returns
returns c = datagrams_are_of_all
