use Rattle.replaying.proofs.Events.{events_are_replayed}
use Rattle.replaying.proofs.laws.events_are_replayed.Goals as goal

pub returns : goal.returns
returns c = events_are_replayed
