use Rattle.recordings.proofs.Apart.{recordings_are_told}
use Rattle.recordings.proofs.laws.recordings_are_told.Goals as goal

pub returns : goal.returns
returns c = recordings_are_told
