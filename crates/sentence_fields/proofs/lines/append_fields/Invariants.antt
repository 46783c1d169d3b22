use Rattle.sentence_fields.proofs.Bodies.{Left}
use Rattle.sentence_fields.proofs.lines.append_fields.Given as goal

abbrev pub invariant-loop-field : goal.invariant-loop-field
invariant-loop-field l = Left l.fn.out.items l.out.items l.fields l.field-index
