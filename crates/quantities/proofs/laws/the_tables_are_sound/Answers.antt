use Rattle.quantities.proofs.Sayings.{tables_are_sound}
use Rattle.quantities.proofs.laws.the_tables_are_sound.Goals as goal

pub returns : goal.returns
returns c = tables_are_sound
