use Rattle.std.proofs.Common.{refl}
use Rattle.run_notes.proofs.reasons.reason_of.Goals as goal

pub returns-in-SourceFailed : goal.returns-in-SourceFailed
returns-in-SourceFailed c = rw c.in-SourceFailed.is refl
