use Rattle.joined_heading.proofs.Steps.{commands_keep_headings as they_keep}
use Rattle.joined_heading.proofs.laws.commands_keep_headings.Goals as goal

pub returns : goal.returns
returns c = they_keep
