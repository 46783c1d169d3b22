use Rattle.std.proofs.Common.{rules}
use Rattle.config_values.proofs.config.SfiApart.is_apart.Goals as goal

pub returns : goal.returns
returns c = search rules
