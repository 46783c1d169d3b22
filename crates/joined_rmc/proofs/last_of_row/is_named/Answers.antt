use Rattle.std.proofs.Common.{rules}
use Rattle.joined_rmc.proofs.last_of_row.is_named.Goals as goal

pub returns-in-Some : goal.returns-in-Some
returns-in-Some c = search rules
