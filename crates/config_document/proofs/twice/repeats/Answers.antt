use Rattle.std.proofs.Common.{◌≡◌, false, arith}
use Rattle.std.proofs.lemmas.Grind.{common_steps}
use Rattle.config_document.specs.Twice.{repeats}
use Rattle.config_document.proofs.Apart.{apart}
use Rattle.config_document.proofs.twice.repeats.Goals as goal

pub returns-clause-apart : goal.returns-clause-apart
returns-clause-apart g c _ =
    let none : repeats g.T.PartialEq.eq c.args.list.now ≡ false = grind (arith, common_steps) in
    apart g.T.PartialEq.eq g.met.T.Eq.laws.refl c.args.list.now none
