use Rattle.heartbeats.proofs.Promises.{frames_are_ready}
use Rattle.heartbeats.proofs.laws.frames_are_ready.Goals as goal

pub returns : goal.returns
returns c = frames_are_ready
