use Rattle.std.proofs.Common.{rules}
use Rattle.capture_text.proofs.reading.wide_frame.Goals as goal

pub returns-then-is_other_kind-clause-reads : goal.returns-then-is_other_kind-clause-reads
returns-then-is_other_kind-clause-reads c = search rules
