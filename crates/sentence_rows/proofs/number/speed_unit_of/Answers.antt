use Rattle.std.proofs.Common.{rules}
use Rattle.sentence_rows.proofs.number.speed_unit_of.Goals as goal

pub returns-then-is_letter-2-clause-exact : goal.returns-then-is_letter-2-clause-exact
returns-then-is_letter-2-clause-exact c = search rules
