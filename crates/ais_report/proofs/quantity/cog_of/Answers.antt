-- The course, all round being zero.
use Rattle.std.proofs.Common.{rules}
use Rattle.ais_report.proofs.quantity.cog_of.Goals as goal

pub returns-in-Some : goal.returns-in-Some
returns-in-Some c = search rules
