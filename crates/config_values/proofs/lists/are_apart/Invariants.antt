use Rattle.config_values.proofs.Pairs.{PairsBelow}
use Rattle.config_values.proofs.lists.are_apart.Given as goal

abbrev pub invariant-loop-place : goal.invariant-loop-place
invariant-loop-place g l = PairsBelow g.T.Apart.are_apart l.place l.list
