use Rattle.quantities.proofs.Sayings.{each_is_said}
use Rattle.quantities.proofs.laws.each_value_is_said_in_a_sentence.Goals as goal

pub returns : goal.returns
returns c = each_is_said
