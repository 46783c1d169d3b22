use Rattle.std.proofs.Common.{refl}
use Rattle.sentence_fields.proofs.letter.letter_where.Goals as goal

pub returns-else-there-clause-value : goal.returns-else-there-clause-value
returns-else-there-clause-value c = rw c.if-there.false refl
