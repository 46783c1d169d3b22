use Rattle.history.proofs.Noted.{frames_are_noted}
use Rattle.history.proofs.laws.frames_are_noted.Goals as goal

pub returns : goal.returns
returns c = frames_are_noted
