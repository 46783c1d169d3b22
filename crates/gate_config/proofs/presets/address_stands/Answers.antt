use Rattle.std.proofs.Common.{rules}
use Rattle.gate_config.proofs.presets.address_stands.Goals as goal

pub returns-else-own-address : goal.returns-else-own-address
returns-else-own-address c = search rules
