use Rattle.std.proofs.Common.{rules}
use Rattle.joined_rmc.proofs.last_of_row.unless_old.Goals as goal

pub returns-then-saturating_sub-from-clause-says : goal.returns-then-saturating_sub-from-clause-says
returns-then-saturating_sub-from-clause-says c = search rules

pub returns-else-saturating_sub-from-clause-says : goal.returns-else-saturating_sub-from-clause-says
returns-else-saturating_sub-from-clause-says c = search rules
