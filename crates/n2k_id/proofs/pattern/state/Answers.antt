-- Each field is stated.
use Rattle.std.proofs.Common.{refl}
use Rattle.n2k_id.specs.Name.{stating}
use Rattle.n2k_id.proofs.pattern.state.Goals as goal

pub returns : goal.returns
unfolding stating
returns c = refl
