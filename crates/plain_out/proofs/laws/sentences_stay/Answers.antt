use Rattle.plain_out.proofs.Staying.{sentences_stay as they_stay}
use Rattle.plain_out.proofs.laws.sentences_stay.Goals as goal

pub returns : goal.returns
returns c = they_stay
