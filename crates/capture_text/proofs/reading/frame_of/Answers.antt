use Rattle.std.proofs.Common.{rules}
use Rattle.capture_text.proofs.reading.frame_of.Goals as goal

pub returns-in-Some-clause-reads : goal.returns-in-Some-clause-reads
returns-in-Some-clause-reads c = search rules
