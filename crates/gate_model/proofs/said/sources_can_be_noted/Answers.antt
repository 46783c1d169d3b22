use Rattle.gate_model.proofs.SaidMessages.{messages_fit}
use Rattle.gate_model.proofs.SaidAddresses.{claims_fit}
use Rattle.gate_model.proofs.said.sources_can_be_noted.Goals as goal

pub returns-clause-messages : goal.returns-clause-messages
returns-clause-messages c = messages_fit

pub returns-clause-claims : goal.returns-clause-claims
returns-clause-claims c = claims_fit
