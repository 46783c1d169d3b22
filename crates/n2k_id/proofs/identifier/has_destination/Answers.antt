-- PF alone tells.
use Rattle.std.proofs.Common.{arith}
use Rattle.std.proofs.lemmas.Grind.{common_steps}
use Rattle.n2k_id.specs.Identifier.{has_destination}
use Rattle.n2k_id.proofs.identifier.has_destination.Goals as goal

pub returns : goal.returns
unfolding has_destination
returns c = grind (arith, common_steps)
