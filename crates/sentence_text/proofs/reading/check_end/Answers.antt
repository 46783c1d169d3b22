use Rattle.std.proofs.Common.{rules}
use Rattle.sentence_text.specs.Reading.{end_fault}
use Rattle.sentence_text.proofs.reading.check_end.Goals as goal

pub returns : goal.returns
unfolding end_fault
returns c = search rules
