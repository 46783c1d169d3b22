use Rattle.std.proofs.Common.{rules}
use Rattle.sentence_fields.proofs.field.tenths.Goals as goal

pub returns : goal.returns
returns c = search rules
