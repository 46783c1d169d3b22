use Rattle.std.proofs.Common.{true, false}
use Rattle.iso_transport.proofs.Following.{sizes}
use Rattle.iso_transport.proofs.laws.messages_have_their_size.Goals as goal

pub returns : goal.returns
returns c = record { addressed = sizes true; broadcast = sizes false }
