use Rattle.capture_text.proofs.Decimals.{Written}
use Rattle.capture_text.proofs.decimal.put_number.Given as goal

abbrev pub invariant-loop-rest : goal.invariant-loop-rest
invariant-loop-rest l = Written l.fn.number l.rest l.start l.room

abbrev pub decreases-loop-rest : goal.decreases-loop-rest
decreases-loop-rest l = l.rest
