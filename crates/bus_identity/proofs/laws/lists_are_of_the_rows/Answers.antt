use Rattle.std.proofs.Common.{refl}
use Rattle.bus_identity.specs.PgnLists.{received, sent}
use Rattle.bus_identity.proofs.laws.lists_are_of_the_rows.Goals as goal

pub returns : goal.returns
unfolding received sent
returns c = record { sent_rises = refl; received_rises = refl; each_sent = refl; each_taken = refl }
