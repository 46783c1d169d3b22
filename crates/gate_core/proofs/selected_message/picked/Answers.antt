use Rattle.std.proofs.Common.{rules}
use Rattle.gate_core.proofs.selected_message.picked.Goals as goal

pub returns-clause-selected : goal.returns-clause-selected
returns-clause-selected c = search rules
