use Rattle.std.proofs.Common.{rules}
use Rattle.config_document.proofs.values.number.Goals as goal

pub returns-in_default-clause-said : goal.returns-in_default-clause-said
returns-in_default-clause-said c = search rules
