-- The heading, all round being zero.
use Rattle.std.proofs.Common.{rules}
use Rattle.ais_report.proofs.quantity.heading_of.Goals as goal

pub returns-in-Some : goal.returns-in-Some
returns-in-Some c = search rules
