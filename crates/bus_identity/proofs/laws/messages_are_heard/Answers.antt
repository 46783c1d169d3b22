use Rattle.bus_identity.proofs.HeardLemmas.{heard}
use Rattle.bus_identity.proofs.laws.messages_are_heard.Goals as goal

pub returns : goal.returns
returns c = heard
