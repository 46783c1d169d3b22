use Rattle.bridge.specs.Beside.{beside_keep_commands}
use Rattle.bridge.proofs.laws.commands_keep_parts.Goals as goal

pub returns : goal.returns
returns c = beside_keep_commands
