use Rattle.unit_fraction.proofs.Text.{Decimals}
use Rattle.unit_fraction.proofs.writing.put_decimals.Given as goal

abbrev pub invariant-loop : goal.invariant-loop
invariant-loop l = Decimals l.n l.places l.fn.text l.counter l.rest l.text
