use Rattle.plain_out.proofs.Staying.{lines_are_read as they_do}
use Rattle.plain_out.proofs.laws.lines_are_read.Goals as goal

pub returns : goal.returns
returns c = they_do
