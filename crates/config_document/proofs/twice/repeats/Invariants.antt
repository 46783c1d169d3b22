use Rattle.std.proofs.Common.{◌≡◌, length}
use Rattle.config_document.specs.Twice.{repeats}
use Rattle.config_document.proofs.twice.repeats.Given as goal

abbrev pub invariant-loop-rest : goal.invariant-loop-rest
invariant-loop-rest g l = repeats g.T.PartialEq.eq l.rest ≡ repeats g.T.PartialEq.eq l.list

abbrev pub decreases-loop-rest : goal.decreases-loop-rest
decreases-loop-rest g l = length l.rest
