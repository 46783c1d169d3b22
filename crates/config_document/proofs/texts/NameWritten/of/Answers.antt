use Rattle.std.proofs.Common.{rules}
use Rattle.config_document.proofs.texts.NameWritten.of.Goals as goal

pub returns-in-Ok-clause-said : goal.returns-in-Ok-clause-said
returns-in-Ok-clause-said c = rw (← c.in-Ok.ensures) (search rules)
