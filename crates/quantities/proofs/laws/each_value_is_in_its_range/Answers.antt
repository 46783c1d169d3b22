use Rattle.quantities.proofs.InRange.{in_range}
use Rattle.quantities.proofs.laws.each_value_is_in_its_range.Goals as goal

pub returns : goal.returns
returns c = in_range
