use Rattle.std.proofs.Common.{arith}
use Rattle.std.proofs.lemmas.List.{length-set}
use Rattle.source_choice.proofs.ChoiceLemmas.{forgotten_more}
use Rattle.source_choice.proofs.choice.forget_in.Goals as goal

pub loop-subject-preserved : goal.loop-subject-preserved
loop-subject-preserved c = grind (arith, forgotten_more, length-set)
