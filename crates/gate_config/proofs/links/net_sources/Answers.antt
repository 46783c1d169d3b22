use Rattle.std.proofs.Common.{rules}
use Rattle.gate_config.specs.Reading.{unless}
use Rattle.gate_config.proofs.links.net_sources.Goals as goal

pub returns-clause-said : goal.returns-clause-said
unfolding unless
returns-clause-said c = search rules

pub returns-clause-valid : goal.returns-clause-valid
returns-clause-valid c = search rules
