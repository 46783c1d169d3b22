use Rattle.isolation.proofs.Isolated.{tell_the_same}
use Rattle.isolation.proofs.RunLemmas.{cut_at_end}
use Rattle.isolation.proofs.laws.same_from.Goals as goal

pub returns-in-Ok-run-clause-isolated : goal.returns-in-Ok-run-clause-isolated
returns-in-Ok-run-clause-isolated c =
    tell_the_same _ _ _ _ c.args.lefts.now c.args.rights.now c.args.address _ _ c.in-Ok.ensures.settings c.in-Ok-run.ensures.settings
    c.in-Ok.ensures.runs c.in-Ok-run.ensures.runs

pub returns-in-Err-run-clause-cut : goal.returns-in-Err-run-clause-cut
returns-in-Err-run-clause-cut c = (cut_at_end _ _ c.args.lefts.now c.args.address _ c.in-Ok.ensures.runs, c.in-Err-run.ensures.cut)
