use Rattle.std.proofs.Common.{rules}
use Rattle.config_values.proofs.presets.PresetApart.is_apart.Goals as goal

pub returns-then-self-other : goal.returns-then-self-other
returns-then-self-other c = search rules
