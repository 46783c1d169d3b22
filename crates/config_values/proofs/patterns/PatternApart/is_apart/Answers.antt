use Rattle.config_values.proofs.PatternPairs.{differ}
use Rattle.config_values.proofs.patterns.PatternApart.is_apart.Goals as goal

pub returns : goal.returns
returns c = differ c.args.self.now c.args.other.now c.ne.result c.ne.ensures
