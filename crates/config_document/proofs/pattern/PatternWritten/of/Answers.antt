use Rattle.config_document.proofs.Words.{whole_is_stated}
use Rattle.config_document.proofs.pattern.PatternWritten.of.Goals as goal

pub returns-in-Some-clause-valid : goal.returns-in-Some-clause-valid
returns-in-Some-clause-valid c = rw c.whole.ensures.pattern (whole_is_stated c.in-Some.name.0)
