use Rattle.sentence_text.proofs.FieldLaws.{Seeks}
use Rattle.sentence_text.proofs.sentence.field_behind.Given as goal

abbrev pub invariant-loop-place : goal.invariant-loop-place
invariant-loop-place l = Seeks l.body l.comma l.place l.left
