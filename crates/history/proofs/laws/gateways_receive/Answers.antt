use Rattle.history.proofs.Receivers.{gateways_receive}
use Rattle.history.proofs.laws.gateways_receive.Goals as goal

pub returns : goal.returns
returns c = gateways_receive
