use Rattle.std.proofs.Common.{rules}
use Rattle.sentence_fields.proofs.field.append_side.Goals as goal

pub returns-after-count-lt0 : goal.returns-after-count-lt0
returns-after-count-lt0 c = search rules
