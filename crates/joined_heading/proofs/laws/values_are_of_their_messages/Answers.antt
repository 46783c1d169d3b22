use Rattle.joined_heading.proofs.LawProofs.{values_are_of_messages}
use Rattle.joined_heading.proofs.laws.values_are_of_their_messages.Goals as goal

pub returns : goal.returns
returns c = values_are_of_messages
