use Rattle.std.proofs.Common.{rules}
use Rattle.config_values.proofs.row_config.is_timeout.Goals as goal

pub returns : goal.returns
returns c = search rules
