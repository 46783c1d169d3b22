use Rattle.quantities.proofs.Found.{IsLeft}
use Rattle.quantities.proofs.reading.entry_at.Given as goal

abbrev pub invariant-loop-entry : goal.invariant-loop-entry
invariant-loop-entry l = IsLeft l.group l.payload l.place l.entry-index
