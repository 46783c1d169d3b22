use Rattle.std.proofs.Common.{rules}
use Rattle.line_commands.proofs.show.append_group.Goals as goal

pub returns-in-Some-clause-text : goal.returns-in-Some-clause-text
returns-in-Some-clause-text c = search rules
