use Rattle.std.proofs.Common.{rules}
use Rattle.gate_config.specs.Keys.{links_in}
use Rattle.gate_config.proofs.all.link_keys.Goals as goal

pub returns-clause-said : goal.returns-clause-said
unfolding links_in
returns-clause-said c = search rules
