use Rattle.gate_model.proofs.NetFits.{items_fit, sequences_fit}
use Rattle.gate_model.proofs.network.calls_can_be_made.Goals as goal

pub returns-clause-items : goal.returns-clause-items
returns-clause-items c = items_fit

pub returns-clause-sequences : goal.returns-clause-sequences
returns-clause-sequences c = sequences_fit
