-- The parts by their bits.
use Rattle.std.proofs.Common.{arith}
use Rattle.std.proofs.lemmas.Grind.{common_steps}
use Rattle.n2k_id.specs.Identifier.{parts_of, parts_at}
use Rattle.n2k_id.proofs.identifier.split.Goals as goal

pub returns-then-has_destination : goal.returns-then-has_destination
unfolding parts_of parts_at
returns-then-has_destination c = grind (arith, common_steps)

pub returns-else-has_destination : goal.returns-else-has_destination
unfolding parts_of parts_at
returns-else-has_destination c = grind (arith, common_steps)
