use Rattle.std.proofs.Common.{rules}
use Rattle.sentence_rows.proofs.number.toward.Goals as goal

pub returns-then-negative : goal.returns-then-negative
returns-then-negative c = search rules
