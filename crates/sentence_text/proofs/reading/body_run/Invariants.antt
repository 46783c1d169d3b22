use Rattle.sentence_text.proofs.Run.{BodyRun}
use Rattle.sentence_text.proofs.reading.body_run.Given as goal

abbrev pub invariant-loop-count : goal.invariant-loop-count
invariant-loop-count l = BodyRun l.bytes l.count l.sum
